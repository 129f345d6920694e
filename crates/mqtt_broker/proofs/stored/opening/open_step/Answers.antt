use Rattle.mqtt_broker.proofs.stored_lemmas.Answering.{refused_first}
use Rattle.mqtt_broker.proofs.stored_lemmas.GoingAlong.{indexed_alike}
use Rattle.mqtt_broker.proofs.stored_lemmas.Over.{begun_lawful}
use Rattle.mqtt_broker.proofs.stored.opening.open_step.Goals as goal

pub over-requires : goal.over-requires
over-requires g c =
    let h = c.requires.begun in
    indexed_alike c.args.step.broker.records (begun_lawful g.K.Keep h.0 h.1 h.2 c.args.keep c.args.step h.3)

pub returns-in-Err : goal.returns-in-Err
returns-in-Err g c = λ first limits now whole u passed identifiers begun. refused_first g.K.Keep limits now first whole c.args.keep begun

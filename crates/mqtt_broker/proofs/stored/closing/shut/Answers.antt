use Rattle.mqtt_broker_step.proofs.Doing.{on_ok, if_err}
use Rattle.mqtt_broker.proofs.stored_lemmas.Closed.{shut_did, shut_left}
use Rattle.mqtt_broker.proofs.stored.closing.shut.Goals as goal

pub returns-clause-ok : goal.returns-clause-ok
returns-clause-ok c = λ x its there.
    on_ok c.close.result (shut_did c.args.birth c.moment-moment.result x c.args.step.now its there c.moment-moment.ensures c.close.new.self) c.close.ensures.ok

pub returns-clause-left : goal.returns-clause-left
returns-clause-left c = λ x its there.
    if_err c.close.result (λ fault. shut_left c.args.birth c.moment-moment.result x c.args.step.now its there c.moment-moment.ensures fault c.close.new.self) c.close.ensures.left

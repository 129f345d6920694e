use Rattle.mqtt_broker_step.proofs.Doing.{if_err, on_ok}
use Rattle.mqtt_broker_acts.proofs.calls_lemmas.OnLine.{on_line}
use Rattle.mqtt_broker_acts.proofs.calls_lemmas.Sources.{willed}
use Rattle.mqtt_broker_acts.proofs.calls_lemmas.Answered.{stray_left, strayed}
use Rattle.mqtt_broker_acts.proofs.calls.leaving.stray.Goals as goal

pub drop_line-requires-clause-lawful : goal.drop_line-requires-clause-lawful
drop_line-requires-clause-lawful g c =
    λ birth is. willed c.args.step.now.broker.records c.requires.client.sources.stored birth

pub returns-clause-ok : goal.returns-clause-ok
returns-clause-ok g c = λ packet stray.
    let s = c.args.step.now in
    let h = on_line c.args.line c.args.birth s.broker c.requires.client in
    on_ok c.drop_line.result (strayed c.args.line c.args.birth s h packet c.drop_line.new.step stray) (c.drop_line.ensures.ok h.l h.number h.session)

pub returns-clause-left : goal.returns-clause-left
returns-clause-left g c = λ packet stray.
    let s = c.args.step.now in
    let h = on_line c.args.line c.args.birth s.broker c.requires.client in
    if_err c.drop_line.result (λ fault. stray_left c.args.line c.args.birth s h packet fault c.drop_line.new.step stray) (c.drop_line.ensures.left h.l h.number h.session)

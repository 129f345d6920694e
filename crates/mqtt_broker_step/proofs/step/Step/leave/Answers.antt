use Rattle.std.proofs.Common.{ap, sym, ◌∙◌}
use Rattle.mqtt_records.specs.messages.Queue.{CopyRow}
use Rattle.mqtt_rules.specs.declared.step.Report.TheVariants.{Ended}
use Rattle.mqtt_broker_step.proofs.Doing.{on_ok}
use Rattle.mqtt_broker_step.proofs.LeftCopies.{leave_ok}
use Rattle.mqtt_broker_step.proofs.step.Step.leave.Goals as goal

pub returns-clause-ok : goal.returns-clause-ok
returns-clause-ok c =
    let x = c.in-Some.session.now in
    let e : CopyRow = c.in-Some-get.row.now in
    let tells = c.in_ok-report.ensures ∙ ap (λ (k : CopyRow). Ended k.copy.id x.client c.args.ending) c.get-2.ensures in
    on_ok c.drop_places.result
    (leave_ok c.args.birth c.args.place c.args.ending x e c.in_ok-report.report c.args.self.now c.tell.new.self c.drop_row.new.self c.drop_places.new.self
    (sym c.in-Some.ensures) (sym c.in-Some-get.ensures) tells c.in_ok-tell.ensures.ok c.in_ok-drop_row.ensures.ok)
    c.drop_places.ensures.ok

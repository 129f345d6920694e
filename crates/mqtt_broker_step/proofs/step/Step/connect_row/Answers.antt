use Rattle.std.proofs.Common.{ap, sym}
use Rattle.mqtt_records.specs.declared.state.session.Columns.{Columns}
use Rattle.mqtt_records.specs.declared.state.session.Session.{Session}
use Rattle.mqtt_broker_step.proofs.Doing.{stands}
use Rattle.mqtt_broker_step.proofs.step.Step.connect_row.Goals as goal

pub make-requires : goal.make-requires
make-requires c =
    let x : Session = c.in-Some.session.now in
    c.in_ok-undo.ensures c.in-Ok.row (ap (λ (row : Columns). row.birth) c.in-Ok.ensures)
    c.args.self.now.broker.records (stands c.args.birth c.args.self.now.broker.records x (sym c.in-Some.ensures))

use Rattle.std.proofs.Common.{◌≡◌, ap, subst, ◌∙◌}
use Rattle.mqtt_records.specs.lists.Order.{IsAscending}
use Rattle.mqtt_records.specs.declared.state.session.Columns.{Columns}
use Rattle.mqtt_records.specs.declared.state.records.Records.{Records}
use Rattle.mqtt_records.specs.declared.state.change.Change.TheVariants.{PutSession, RemoveSession}
use Rattle.mqtt_records.specs.state.Records.{changed}
use Rattle.mqtt_records.specs.state.Session.{birth_of}
use Rattle.mqtt_broker_step.specs.Stepping.{Stepping}
use Rattle.mqtt_broker_step.proofs.Begun.{begun_back}
use Rattle.mqtt_broker_step.proofs.step.Step.new_row.Goals as goal

pub make-requires : goal.make-requires
make-requires c =
    let r : Records = c.args.self.now.broker.records in
    let here : c.records.result.now ≡ r = c.records.ensures ∙ ap (λ (v : Stepping). v.broker.records) c.self.view_is in
    let up = subst (λ (x : Records). IsAscending birth_of x.sessions) here c.by_birth.ensures in
    ap (λ (row : Columns). changed (RemoveSession c.args.columns.birth) (changed (PutSession row) r)) c.in_ok-row.ensures
    ∙ begun_back c.args.columns r up c.requires

use Rattle.std.proofs.Common.{◌≡◌, ◌∷◌, [], ◌++◌, refl}
use Rattle.mqtt_records.specs.declared.state.change.Change.TheVariants.{RemoveSession}
use Rattle.mqtt_broker_step.specs.Undoing.{become, with_change}
use Rattle.mqtt_broker_step.proofs.Rows.{row_more}
use Rattle.mqtt_broker_step.proofs.step.Step.finish.Goals as goal

pub invariant_of-self-2 : goal.invariant_of-self-2
invariant_of-self-2 c =
    let noted = rw c.unwrap.ensures at c.push.ensures.items in
    let kept : c.reserve.new.self.items ≡ c.self.inside.rows.items = c.reserve.ensures.items in
    let rows : c.push.new.self.items ≡ c.self.inside.rows.items ++ RemoveSession c.args.birth ∷ [] = cc in
    let made : c.take_session.new.self ≡ become (with_change (RemoveSession c.args.birth) c.self.inside.tables.broker) c.self.inside.tables = c.in_ok-take_session.ensures.ok in
    row_more c.self.inside.tables c.take_session.new.self c.self.inside.rows.items c.push.new.self.items (RemoveSession c.args.birth) c.self.invariant rows made refl

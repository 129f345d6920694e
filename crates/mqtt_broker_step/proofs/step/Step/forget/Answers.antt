use Rattle.std.proofs.Common.{◌≡◌, ◌∷◌, [], ◌++◌, refl}
use Rattle.mqtt_records.specs.declared.state.change.Change.TheVariants.{RemoveRetained}
use Rattle.mqtt_broker_step.specs.Undoing.{become, with_change}
use Rattle.mqtt_broker_step.proofs.Rows.{row_more}
use Rattle.mqtt_broker_step.proofs.step.Step.forget.Goals as goal

pub invariant_of-self-2 : goal.invariant_of-self-2
invariant_of-self-2 c =
    let noted = rw c.unwrap.ensures at c.push.ensures.items in
    let kept : c.reserve.new.self.items ≡ c.self.inside.rows.items = c.reserve.ensures.items in
    let rows : c.push.new.self.items ≡ c.self.inside.rows.items ++ RemoveRetained c.args.place ∷ [] = cc in
    let made : c.take_retained.new.self ≡ become (with_change (RemoveRetained c.args.place) c.self.inside.tables.broker) c.self.inside.tables = c.in_ok-take_retained.ensures.ok in
    row_more c.self.inside.tables c.take_retained.new.self c.self.inside.rows.items c.push.new.self.items (RemoveRetained c.args.place) c.self.invariant rows made refl

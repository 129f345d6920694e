use Rattle.std.proofs.Common.{◌≡◌, ◌∷◌, [], ◌++◌, refl, ap, sym, subst}
use Rattle.std.specs.Prelude.{Some}
use Rattle.mqtt_records.specs.declared.state.records.Records.{Records}
use Rattle.mqtt_records.specs.declared.state.session.Session.{Session}
use Rattle.mqtt_rules.specs.step.State.{session_at}
use Rattle.mqtt_rules.specs.step.Laws.{HasTables}
use Rattle.mqtt_broker_step.specs.Stepping.{Stepping}
use Rattle.mqtt_records.specs.declared.state.change.Change.TheVariants.{RemoveCopy}
use Rattle.mqtt_broker_step.specs.Undoing.{become, with_change}
use Rattle.mqtt_broker_step.proofs.Rows.{row_more}
use Rattle.mqtt_broker_step.proofs.step.Step.drop_row.Goals as goal

pub invariant_of-self-2 : goal.invariant_of-self-2
invariant_of-self-2 c =
    let noted = rw c.unwrap.ensures at c.push.ensures.items in
    let kept : c.reserve.new.self.items ≡ c.self.inside.rows.items = c.reserve.ensures.items in
    let rows : c.push.new.self.items ≡ c.self.inside.rows.items ++ RemoveCopy c.args.birth c.args.place ∷ [] = cc in
    let made : c.take_copy.new.self ≡ become (with_change (RemoveCopy c.args.birth c.args.place) c.self.inside.tables.broker) c.self.inside.tables = c.in_ok-take_copy.ensures.ok in
    row_more c.self.inside.tables c.take_copy.new.self c.self.inside.rows.items c.push.new.self.items (RemoveCopy c.args.birth c.args.place) c.self.invariant rows made refl

pub take_copy-requires : goal.take_copy-requires
take_copy-requires c =
    let here = ap (λ (v : Stepping). v.broker.records) c.self.view_is in
    subst (λ (x : Records). (s : Session) → session_at c.args.birth x ≡ Some s → HasTables s) (sym here) c.requires

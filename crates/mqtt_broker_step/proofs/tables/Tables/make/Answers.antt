use Rattle.std.proofs.Common.{◌≡◌, ◌∷◌, [], ◌++◌, ap, sym, subst, ◌∙◌}
use Rattle.mqtt_records.specs.declared.state.records.Records.{Records}
use Rattle.mqtt_records.specs.state.Records.{changed}
use Rattle.mqtt_rules.specs.step.State.{Broker}
use Rattle.mqtt_broker_step.specs.declared.undo.Undo.TheVariants.{Make}
use Rattle.mqtt_broker_step.specs.Undoing.{Changing, broker_of, become, with_records, with_change}
use Rattle.mqtt_broker_step.proofs.Journal.{change_is}
use Rattle.mqtt_broker_step.proofs.tables.Tables.make.Goals as goal

pub returns-clause-ok : goal.returns-clause-ok
returns-clause-ok c =
    let r : Records = c.self.inside.records in
    let b : Broker = broker_of r c.self.inside.lines c.self.inside.tellings c.self.inside.given c.self.inside.moment in
    let here : r ≡ c.args.self.now.broker.records = ap (λ (v : Changing). v.broker.records) c.self.view_is in
    let noted = rw c.unwrap.ensures at c.push.ensures.items in
    let kept : c.reserve.new.self.items ≡ c.self.inside.journal.items = c.reserve.ensures.items in
    let pushed : c.push.new.self.items ≡ c.self.inside.journal.items ++ Make c.args.undo ∷ [] = cc in
    let made : c.change.new.self ≡ changed c.args.change r = c.change.ensures in
    let back : changed c.args.undo c.change.new.self ≡ r =
    ap (changed c.args.undo) made ∙ subst (λ (x : Records). changed c.args.undo (changed c.args.change x) ≡ x) (sym here) c.requires in
    change_is c.self.inside.journal.items c.push.new.self.items (Make c.args.undo) b (with_records c.change.new.self b) (with_change c.args.change b)
    pushed (ap (λ (x : Records). with_records x b) back) (ap (λ (x : Records). with_records x b) made)
    ∙ ap (λ (v : Changing). become (with_change c.args.change v.broker) v) c.self.view_is

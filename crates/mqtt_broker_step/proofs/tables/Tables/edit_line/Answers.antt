use Rattle.std.proofs.Common.{◌≡◌, List, ◌∷◌, [], ◌++◌, ap, sym, subst, ◌∙◌}
use Rattle.std.specs.Prelude.{Some}
use Rattle.mqtt_records.specs.lists.Order.{row_at, change_row}
use Rattle.mqtt_rules.specs.step.State.{Line, Broker}
use Rattle.mqtt_broker_step.specs.declared.undo.Undo.TheVariants.{EditLine}
use Rattle.mqtt_broker_step.specs.Lines.{line_changed, line_number, number-line_changed}
use Rattle.mqtt_broker_step.specs.Undoing.{Changing, broker_of, become, with_lines, with_line_changed}
use Rattle.mqtt_broker_step.proofs.Inverse.{edit_back}
use Rattle.mqtt_broker_step.proofs.Journal.{change_is}
use Rattle.mqtt_broker_step.proofs.tables.Tables.edit_line.Goals as goal

pub returns-clause-ok : goal.returns-clause-ok
returns-clause-ok c =
    let ls : List Line = c.self.inside.lines in
    let b : Broker = broker_of c.self.inside.records ls c.self.inside.tellings c.self.inside.given c.self.inside.moment in
    let here : ls ≡ c.args.self.now.broker.lines = ap (λ (v : Changing). v.broker.lines) c.self.view_is in
    let noted = rw c.unwrap.ensures at c.push.ensures.items in
    let kept : c.reserve.new.self.items ≡ c.self.inside.journal.items = c.reserve.ensures.items in
    let pushed : c.push.new.self.items ≡ c.self.inside.journal.items ++ EditLine c.args.number c.args.undo ∷ [] = cc in
    let edited : c.edit.new.self ≡ change_row line_number c.args.number (line_changed c.args.change) ls = c.edit.ensures in
    let back : change_row line_number c.args.number (line_changed c.args.undo) c.edit.new.self ≡ ls =
    ap (change_row line_number c.args.number (line_changed c.args.undo)) edited
    ∙ edit_back line_number c.args.number (line_changed c.args.change) (line_changed c.args.undo) ls (number-line_changed c.args.change)
    (subst (λ (xs : List Line). (l : Line) → row_at line_number c.args.number xs ≡ Some l → line_changed c.args.undo (line_changed c.args.change l) ≡ l) (sym here) c.requires) in
    change_is c.self.inside.journal.items c.push.new.self.items (EditLine c.args.number c.args.undo) b (with_lines c.edit.new.self b) (with_line_changed c.args.number c.args.change b)
    pushed (ap (λ (xs : List Line). with_lines xs b) back) (ap (λ (xs : List Line). with_lines xs b) edited)
    ∙ ap (λ (v : Changing). become (with_line_changed c.args.number c.args.change v.broker) v) c.self.view_is

use Rattle.std.proofs.Common.{◌≡◌, List, ◌∷◌, [], ◌++◌, ap, sym, ◌∙◌}
use Rattle.mqtt_records.specs.lists.Order.{remove_row}
use Rattle.mqtt_records.proofs.lists_lemmas.OrderLemmas.{remove-none}
use Rattle.mqtt_rules.specs.step.State.{Line, Broker}
use Rattle.mqtt_base.specs.declared.limits.TheConstants.{LINE_LIMIT}
use Rattle.mqtt_records.specs.lists.Order.{put_row}
use Rattle.mqtt_broker_step.specs.declared.undo.Undo.TheVariants.{PutLine}
use Rattle.mqtt_broker_step.specs.Lines.{line_number}
use Rattle.mqtt_broker_step.specs.Undoing.{Changing, broker_of, become, with_lines}
use Rattle.mqtt_broker_step.proofs.Inverse.{removed_back}
use Rattle.mqtt_broker_step.proofs.Journal.{change_is, same_is}
use Rattle.mqtt_broker_step.proofs.tables.Tables.take_line.Goals as goal

pub returns-in-Some-clause-ok : goal.returns-in-Some-clause-ok
returns-in-Some-clause-ok c =
    let xs : List Line = c.self.inside.lines in
    let b : Broker = broker_of c.self.inside.records c.self.inside.lines c.self.inside.tellings c.self.inside.given c.self.inside.moment in
    let noted = rw c.unwrap.ensures at c.push.ensures.items in
    let kept : c.reserve.new.self.items ≡ c.self.inside.journal.items = c.reserve.ensures.items in
    let pushed : c.push.new.self.items ≡ c.self.inside.journal.items ++ PutLine c.in-Some.line ∷ [] = cc in
    let rest : c.take.new.self ≡ remove_row line_number c.args.number xs = c.take.ensures.rest in
    let back = ap (λ (ys : List Line). put_row line_number LINE_LIMIT c.in-Some.line ys) rest
    ∙ removed_back line_number LINE_LIMIT c.args.number c.in-Some.line xs c.as_slice.ensures.order (sym c.in-Some.ensures.row) c.as_slice.ensures.few in
    change_is c.self.inside.journal.items c.push.new.self.items (PutLine c.in-Some.line) b (with_lines c.take.new.self b) (with_lines (remove_row line_number c.args.number xs) b)
    pushed (ap (λ (ys : List Line). with_lines ys b) back) (ap (λ (ys : List Line). with_lines ys b) rest)
    ∙ ap (λ (v : Changing). become (with_lines (remove_row line_number c.args.number v.broker.lines) v.broker) v) c.self.view_is

pub returns-in-None-clause-ok : goal.returns-in-None-clause-ok
returns-in-None-clause-ok c =
    let xs : List Line = c.self.inside.lines in
    let b : Broker = broker_of c.self.inside.records c.self.inside.lines c.self.inside.tellings c.self.inside.given c.self.inside.moment in
    let same : remove_row line_number c.args.number xs ≡ xs = remove-none line_number c.args.number xs (sym c.in-None.ensures.row) in
    let rest : c.take.new.self ≡ remove_row line_number c.args.number xs = c.take.ensures.rest in
    same_is c.self.inside.journal.items c.reserve.new.self.items b (with_lines c.take.new.self b) (with_lines (remove_row line_number c.args.number xs) b)
    c.reserve.ensures.items (ap (λ (ys : List Line). with_lines ys b) (rest ∙ same)) (ap (λ (ys : List Line). with_lines ys b) rest)
    ∙ ap (λ (v : Changing). become (with_lines (remove_row line_number c.args.number v.broker.lines) v.broker) v) c.self.view_is

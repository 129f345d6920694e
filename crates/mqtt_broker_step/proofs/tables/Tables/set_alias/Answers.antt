use Rattle.std.proofs.Common.{◌≡◌, List, ◌∷◌, [], ◌++◌, ap, ◌∙◌}
use Rattle.mqtt_records.specs.lists.Order.{change_row}
use Rattle.mqtt_rules.specs.step.State.{Line, Broker}
use Rattle.mqtt_broker_step.specs.declared.undo.Undo.TheVariants.{EditLine}
use Rattle.mqtt_broker_step.specs.Lines.{line_number, with_alias}
use Rattle.mqtt_broker_step.specs.Undoing.{Changing, broker_of, become, with_lines}
use Rattle.mqtt_broker_step.proofs.Journal.{change_is, same_is}
use Rattle.mqtt_broker_step.proofs.tables.Tables.set_alias.Goals as goal

pub returns-in-Some-clause-ok : goal.returns-in-Some-clause-ok
returns-in-Some-clause-ok c =
    let xs : List Line = c.self.inside.lines in
    let b : Broker = broker_of c.self.inside.records xs c.self.inside.tellings c.self.inside.given c.self.inside.moment in
    let noted = rw c.unwrap.ensures at c.push.ensures.items in
    let kept : c.reserve.new.self.items ≡ c.self.inside.journal.items = c.reserve.ensures.items in
    let pushed : c.push.new.self.items ≡ c.self.inside.journal.items ++ EditLine c.args.number c.in-Some.change ∷ [] = cc in
    let set : c.set_alias_of.new.lines ≡ change_row line_number c.args.number (with_alias c.args.alias c.args.topic.now) xs = c.in_ok-change.ensures.ok in
    let back = rw c.in-Some.is at c.in_ok-change.ensures.back in
    change_is c.self.inside.journal.items c.push.new.self.items (EditLine c.args.number c.in-Some.change) b (with_lines c.set_alias_of.new.lines b)
    (with_lines (change_row line_number c.args.number (with_alias c.args.alias c.args.topic.now) xs) b)
    pushed (ap (λ (ys : List Line). with_lines ys b) back) (ap (λ (ys : List Line). with_lines ys b) set)
    ∙ ap (λ (v : Changing). become (with_lines (change_row line_number c.args.number (with_alias c.args.alias c.args.topic.now) v.broker.lines) v.broker) v) c.self.view_is

pub returns-in-None-clause-ok : goal.returns-in-None-clause-ok
returns-in-None-clause-ok c =
    let xs : List Line = c.self.inside.lines in
    let b : Broker = broker_of c.self.inside.records xs c.self.inside.tellings c.self.inside.given c.self.inside.moment in
    let set : c.set_alias_of.new.lines ≡ change_row line_number c.args.number (with_alias c.args.alias c.args.topic.now) xs = c.in_ok-change.ensures.ok in
    let same = rw c.in-None.is at c.in_ok-change.ensures.back in
    same_is c.self.inside.journal.items c.reserve.new.self.items b (with_lines c.set_alias_of.new.lines b)
    (with_lines (change_row line_number c.args.number (with_alias c.args.alias c.args.topic.now) xs) b)
    c.reserve.ensures.items (ap (λ (ys : List Line). with_lines ys b) same) (ap (λ (ys : List Line). with_lines ys b) set)
    ∙ ap (λ (v : Changing). become (with_lines (change_row line_number c.args.number (with_alias c.args.alias c.args.topic.now) v.broker.lines) v.broker) v) c.self.view_is

use Rattle.std.proofs.Common.{◌≡◌, List, ◌∷◌, [], ◌++◌, ap, sym, ◌∙◌}
use Rattle.mqtt_records.specs.lists.Order.{remove_row}
use Rattle.mqtt_records.proofs.lists_lemmas.OrderLemmas.{remove-none}
use Rattle.mqtt_rules.specs.step.State.{Telling, Broker, told_line}
use Rattle.mqtt_base.specs.declared.limits.TheConstants.{LINE_LIMIT}
use Rattle.mqtt_records.specs.lists.Order.{put_row}
use Rattle.mqtt_broker_step.specs.declared.undo.Undo.TheVariants.{PutTelling}
use Rattle.mqtt_broker_step.specs.Undoing.{Changing, broker_of, become, with_tellings}
use Rattle.mqtt_broker_step.proofs.Inverse.{removed_back}
use Rattle.mqtt_broker_step.proofs.Journal.{change_is, same_is}
use Rattle.mqtt_broker_step.proofs.tables.Tables.take_telling.Goals as goal

pub returns-in-Some-clause-ok : goal.returns-in-Some-clause-ok
returns-in-Some-clause-ok c =
    let xs : List Telling = c.self.inside.tellings in
    let b : Broker = broker_of c.self.inside.records c.self.inside.lines c.self.inside.tellings c.self.inside.given c.self.inside.moment in
    let noted = rw c.unwrap.ensures at c.push.ensures.items in
    let kept : c.reserve.new.self.items ≡ c.self.inside.journal.items = c.reserve.ensures.items in
    let pushed : c.push.new.self.items ≡ c.self.inside.journal.items ++ PutTelling c.in-Some.telling ∷ [] = cc in
    let rest : c.take.new.self ≡ remove_row told_line c.args.line xs = c.take.ensures.rest in
    let back = ap (λ (ys : List Telling). put_row told_line LINE_LIMIT c.in-Some.telling ys) rest
    ∙ removed_back told_line LINE_LIMIT c.args.line c.in-Some.telling xs c.as_slice.ensures.order (sym c.in-Some.ensures.row) c.as_slice.ensures.few in
    change_is c.self.inside.journal.items c.push.new.self.items (PutTelling c.in-Some.telling) b (with_tellings c.take.new.self b) (with_tellings (remove_row told_line c.args.line xs) b)
    pushed (ap (λ (ys : List Telling). with_tellings ys b) back) (ap (λ (ys : List Telling). with_tellings ys b) rest)
    ∙ ap (λ (v : Changing). become (with_tellings (remove_row told_line c.args.line v.broker.tellings) v.broker) v) c.self.view_is

pub returns-in-None-clause-ok : goal.returns-in-None-clause-ok
returns-in-None-clause-ok c =
    let xs : List Telling = c.self.inside.tellings in
    let b : Broker = broker_of c.self.inside.records c.self.inside.lines c.self.inside.tellings c.self.inside.given c.self.inside.moment in
    let same : remove_row told_line c.args.line xs ≡ xs = remove-none told_line c.args.line xs (sym c.in-None.ensures.row) in
    let rest : c.take.new.self ≡ remove_row told_line c.args.line xs = c.take.ensures.rest in
    same_is c.self.inside.journal.items c.reserve.new.self.items b (with_tellings c.take.new.self b) (with_tellings (remove_row told_line c.args.line xs) b)
    c.reserve.ensures.items (ap (λ (ys : List Telling). with_tellings ys b) (rest ∙ same)) (ap (λ (ys : List Telling). with_tellings ys b) rest)
    ∙ ap (λ (v : Changing). become (with_tellings (remove_row told_line c.args.line v.broker.tellings) v.broker) v) c.self.view_is

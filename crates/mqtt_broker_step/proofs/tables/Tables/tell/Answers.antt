use Rattle.std.proofs.Common.{◌≡◌, List, ◌∷◌, [], ◌++◌, ap, ◌∙◌}
use Rattle.mqtt_records.specs.lists.Order.{change_row}
use Rattle.mqtt_rules.specs.step.State.{Telling, Broker, told_line}
use Rattle.mqtt_broker_step.specs.declared.undo.Undo.TheVariants.{CutTelling}
use Rattle.mqtt_broker_step.specs.Tellings.{telling_more}
use Rattle.mqtt_broker_step.specs.Undoing.{Changing, broker_of, become, with_tellings}
use Rattle.mqtt_broker_step.proofs.Journal.{change_is, same_is}
use Rattle.mqtt_broker_step.proofs.tables.Tables.tell.Goals as goal

pub returns-in-Some-clause-ok : goal.returns-in-Some-clause-ok
returns-in-Some-clause-ok c =
    let xs : List Telling = c.self.inside.tellings in
    let b : Broker = broker_of c.self.inside.records c.self.inside.lines xs c.self.inside.given c.self.inside.moment in
    let noted = rw c.unwrap.ensures at c.push.ensures.items in
    let kept : c.reserve.new.self.items ≡ c.self.inside.journal.items = c.reserve.ensures.items in
    let pushed : c.push.new.self.items ≡ c.self.inside.journal.items ++ CutTelling c.args.line c.in-Some.count ∷ [] = cc in
    let told : c.tell_in.new.tellings ≡ change_row told_line c.args.line (telling_more c.args.topic.now) xs = c.in_ok-count.ensures.ok in
    let back = rw c.in-Some.is at c.in_ok-count.ensures.back in
    change_is c.self.inside.journal.items c.push.new.self.items (CutTelling c.args.line c.in-Some.count) b (with_tellings c.tell_in.new.tellings b)
    (with_tellings (change_row told_line c.args.line (telling_more c.args.topic.now) xs) b)
    pushed (ap (λ (ys : List Telling). with_tellings ys b) back) (ap (λ (ys : List Telling). with_tellings ys b) told)
    ∙ ap (λ (v : Changing). become (with_tellings (change_row told_line c.args.line (telling_more c.args.topic.now) v.broker.tellings) v.broker) v) c.self.view_is

pub returns-in-None-clause-ok : goal.returns-in-None-clause-ok
returns-in-None-clause-ok c =
    let xs : List Telling = c.self.inside.tellings in
    let b : Broker = broker_of c.self.inside.records c.self.inside.lines xs c.self.inside.given c.self.inside.moment in
    let told : c.tell_in.new.tellings ≡ change_row told_line c.args.line (telling_more c.args.topic.now) xs = c.in_ok-count.ensures.ok in
    let same = rw c.in-None.is at c.in_ok-count.ensures.back in
    same_is c.self.inside.journal.items c.reserve.new.self.items b (with_tellings c.tell_in.new.tellings b)
    (with_tellings (change_row told_line c.args.line (telling_more c.args.topic.now) xs) b)
    c.reserve.ensures.items (ap (λ (ys : List Telling). with_tellings ys b) same) (ap (λ (ys : List Telling). with_tellings ys b) told)
    ∙ ap (λ (v : Changing). become (with_tellings (change_row told_line c.args.line (telling_more c.args.topic.now) v.broker.tellings) v.broker) v) c.self.view_is

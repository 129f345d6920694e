use Rattle.std.proofs.Common.{◌≡◌, List, ◌∷◌, [], ◌++◌, refl, ap, subst, sym, ◌∙◌}
use Rattle.std.specs.Prelude.{None}
use Rattle.mqtt_base.specs.declared.limits.TheConstants.{LINE_LIMIT}
use Rattle.mqtt_records.specs.lists.Order.{put_row, remove_row, row_at}
use Rattle.mqtt_topic.specs.sending.Told.{none_told}
use Rattle.mqtt_rules.specs.step.State.{Telling, Broker, told_line}
use Rattle.mqtt_broker_step.specs.declared.undo.Undo.TheVariants.{RemoveTelling}
use Rattle.mqtt_broker_step.specs.Undoing.{Changing, broker_of, become, with_tellings}
use Rattle.mqtt_broker_step.proofs.Inverse.{put_back}
use Rattle.mqtt_broker_step.proofs.Journal.{change_is}
use Rattle.mqtt_broker_step.proofs.tables.Tables.put_telling.Goals as goal

pub returns-clause-ok : goal.returns-clause-ok
returns-clause-ok c =
    let xs : List Telling = c.self.inside.tellings in
    let row : Telling = record { line = c.args.line; topics = none_told c.args.most } in
    let b : Broker = broker_of c.self.inside.records c.self.inside.lines xs c.self.inside.given c.self.inside.moment in
    let pushed : c.push.new.self.items ≡ c.self.inside.journal.items ++ RemoveTelling c.args.line ∷ [] = c.in_ok-push.ensures.items in
    let put : c.put.new.self ≡ put_row told_line LINE_LIMIT row xs =
    c.put.ensures ∙ ap (λ (t : Telling). put_row told_line LINE_LIMIT t xs) c.new.ensures in
    let none : row_at told_line c.args.line xs ≡ None = subst (λ (v : Changing). row_at told_line c.args.line v.broker.tellings ≡ None) (sym c.self.view_is) c.requires.new in
    let back : remove_row told_line c.args.line c.put.new.self ≡ xs =
    ap (remove_row told_line c.args.line) put ∙ put_back told_line LINE_LIMIT row xs c.as_slice.ensures.order none in
    change_is c.self.inside.journal.items c.push.new.self.items (RemoveTelling c.args.line) b (with_tellings c.put.new.self b) (with_tellings (put_row told_line LINE_LIMIT row xs) b)
    pushed (ap (λ (ys : List Telling). with_tellings ys b) back) (ap (λ (ys : List Telling). with_tellings ys b) put)
    ∙ ap (λ (v : Changing). become (with_tellings (put_row told_line LINE_LIMIT row v.broker.tellings) v.broker) v) c.self.view_is

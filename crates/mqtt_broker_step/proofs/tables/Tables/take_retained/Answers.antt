use Rattle.std.proofs.Common.{◌≡◌, ◌≤◌, List, ◌∷◌, [], ◌++◌, length, ap, sym, subst, ◌∙◌}
use Rattle.mqtt_records.specs.lists.Order.{IsAscending, remove_row}
use Rattle.mqtt_records.proofs.lists_lemmas.OrderLemmas.{remove-none}
use Rattle.mqtt_rules.specs.step.State.{Broker}
use Rattle.mqtt_base.specs.declared.limits.TheConstants.{RETAINED_LIMIT}
use Rattle.mqtt_records.specs.lists.Order.{put_row}
use Rattle.mqtt_records.specs.declared.messages.message.RetainedMessage.{RetainedMessage}
use Rattle.mqtt_records.specs.declared.state.records.Records.{Records}
use Rattle.mqtt_records.specs.declared.state.change.Change.TheVariants.{RemoveRetained, PutRetained}
use Rattle.mqtt_broker_step.specs.declared.undo.Undo.TheVariants.{Make}
use Rattle.mqtt_records.specs.state.Records.{kept_place}
use Rattle.mqtt_broker_step.specs.Undoing.{Changing, broker_of, become, with_records, with_change}
use Rattle.mqtt_broker_step.proofs.Inverse.{removed_back}
use Rattle.mqtt_broker_step.proofs.Journal.{change_is, same_is}
use Rattle.mqtt_broker_step.proofs.tables.Tables.take_retained.Goals as goal

pub returns-in-Some-clause-ok : goal.returns-in-Some-clause-ok
returns-in-Some-clause-ok c =
    let r : Records = c.self.inside.records in
    let xs : List RetainedMessage = r.retained in
    let b : Broker = broker_of r c.self.inside.lines c.self.inside.tellings c.self.inside.given c.self.inside.moment in
    let noted = rw c.unwrap.ensures at c.push.ensures.items in
    let kept : c.reserve.new.self.items ≡ c.self.inside.journal.items = c.reserve.ensures.items in
    let pushed : c.push.new.self.items ≡ c.self.inside.journal.items ++ Make (PutRetained c.in-Some.kept) ∷ [] = cc in
    let up : IsAscending kept_place xs = subst (λ (q : Records). IsAscending kept_place q.retained) c.records.ensures c.as_slice.ensures.order in
    let few : length xs ≤ RETAINED_LIMIT = subst (λ (q : Records). length q.retained ≤ RETAINED_LIMIT) c.records.ensures c.as_slice.ensures.few in
    let rest : c.take_retained.new.self ≡ record r { retained = remove_row kept_place c.args.place xs } = c.take_retained.ensures.rest in
    let back : record c.take_retained.new.self { retained = put_row kept_place RETAINED_LIMIT c.in-Some.kept c.take_retained.new.self.retained } ≡ r =
    ap (λ (q : Records). record q { retained = put_row kept_place RETAINED_LIMIT c.in-Some.kept q.retained }) rest
    ∙ ap (λ (ys : List RetainedMessage). record r { retained = ys }) (removed_back kept_place RETAINED_LIMIT c.args.place c.in-Some.kept xs up (sym c.in-Some.ensures.kept) few) in
    change_is c.self.inside.journal.items c.push.new.self.items (Make (PutRetained c.in-Some.kept)) b (with_records c.take_retained.new.self b) (with_change (RemoveRetained c.args.place) b)
    pushed (ap (λ (q : Records). with_records q b) back) (ap (λ (q : Records). with_records q b) rest)
    ∙ ap (λ (v : Changing). become (with_change (RemoveRetained c.args.place) v.broker) v) c.self.view_is

pub returns-in-None-clause-ok : goal.returns-in-None-clause-ok
returns-in-None-clause-ok c =
    let r : Records = c.self.inside.records in
    let xs : List RetainedMessage = r.retained in
    let b : Broker = broker_of r c.self.inside.lines c.self.inside.tellings c.self.inside.given c.self.inside.moment in
    let same : remove_row kept_place c.args.place xs ≡ xs = remove-none kept_place c.args.place xs (sym c.in-None.ensures.kept) in
    let rest : c.take_retained.new.self ≡ record r { retained = remove_row kept_place c.args.place xs } = c.take_retained.ensures.rest in
    same_is c.self.inside.journal.items c.reserve.new.self.items b (with_records c.take_retained.new.self b) (with_change (RemoveRetained c.args.place) b)
    c.reserve.ensures.items (ap (λ (q : Records). with_records q b) (rest ∙ ap (λ (ys : List RetainedMessage). record r { retained = ys }) same)) (ap (λ (q : Records). with_records q b) rest)
    ∙ ap (λ (v : Changing). become (with_change (RemoveRetained c.args.place) v.broker) v) c.self.view_is

use Rattle.std.proofs.Common.{◌≡◌, ◌≤◌, List, ◌∷◌, [], ◌++◌, length, ap, sym, subst, ◌∙◌}
use Rattle.mqtt_records.specs.lists.Order.{IsAscending, remove_row}
use Rattle.mqtt_records.proofs.lists_lemmas.OrderLemmas.{remove-none}
use Rattle.mqtt_rules.specs.step.State.{Broker}
use Rattle.mqtt_base.specs.declared.limits.TheConstants.{SESSION_LIMIT}
use Rattle.mqtt_records.specs.lists.Order.{put_row}
use Rattle.mqtt_records.specs.declared.state.session.Session.{Session}
use Rattle.mqtt_records.specs.declared.state.records.Records.{Records}
use Rattle.mqtt_records.specs.declared.state.change.Change.TheVariants.{RemoveSession}
use Rattle.mqtt_broker_step.specs.declared.undo.Undo.TheVariants.{PutSession}
use Rattle.mqtt_records.specs.state.Session.{birth_of}
use Rattle.mqtt_broker_step.specs.Undoing.{Changing, broker_of, become, with_records, with_change}
use Rattle.mqtt_broker_step.proofs.Inverse.{removed_back}
use Rattle.mqtt_broker_step.proofs.Journal.{change_is, same_is}
use Rattle.mqtt_broker_step.proofs.tables.Tables.take_session.Goals as goal

pub returns-in-Some-clause-ok : goal.returns-in-Some-clause-ok
returns-in-Some-clause-ok c =
    let r : Records = c.self.inside.records in
    let xs : List Session = r.sessions in
    let b : Broker = broker_of r c.self.inside.lines c.self.inside.tellings c.self.inside.given c.self.inside.moment in
    let noted = rw c.unwrap.ensures at c.push.ensures.items in
    let kept : c.reserve.new.self.items ≡ c.self.inside.journal.items = c.reserve.ensures.items in
    let pushed : c.push.new.self.items ≡ c.self.inside.journal.items ++ PutSession c.in-Some.session ∷ [] = cc in
    let up : IsAscending birth_of xs = subst (λ (q : Records). IsAscending birth_of q.sessions) c.records.ensures c.as_slice.ensures.order in
    let few : length xs ≤ SESSION_LIMIT = subst (λ (q : Records). length q.sessions ≤ SESSION_LIMIT) c.records.ensures c.as_slice.ensures.few in
    let rest : c.take_session.new.self ≡ record r { sessions = remove_row birth_of c.args.birth xs } = c.take_session.ensures.rest in
    let back : record c.take_session.new.self { sessions = put_row birth_of SESSION_LIMIT c.in-Some.session c.take_session.new.self.sessions } ≡ r =
    ap (λ (q : Records). record q { sessions = put_row birth_of SESSION_LIMIT c.in-Some.session q.sessions }) rest
    ∙ ap (λ (ys : List Session). record r { sessions = ys }) (removed_back birth_of SESSION_LIMIT c.args.birth c.in-Some.session xs up (sym c.in-Some.ensures.session) few) in
    change_is c.self.inside.journal.items c.push.new.self.items (PutSession c.in-Some.session) b (with_records c.take_session.new.self b) (with_change (RemoveSession c.args.birth) b)
    pushed (ap (λ (q : Records). with_records q b) back) (ap (λ (q : Records). with_records q b) rest)
    ∙ ap (λ (v : Changing). become (with_change (RemoveSession c.args.birth) v.broker) v) c.self.view_is

pub returns-in-None-clause-ok : goal.returns-in-None-clause-ok
returns-in-None-clause-ok c =
    let r : Records = c.self.inside.records in
    let xs : List Session = r.sessions in
    let b : Broker = broker_of r c.self.inside.lines c.self.inside.tellings c.self.inside.given c.self.inside.moment in
    let same : remove_row birth_of c.args.birth xs ≡ xs = remove-none birth_of c.args.birth xs (sym c.in-None.ensures.session) in
    let rest : c.take_session.new.self ≡ record r { sessions = remove_row birth_of c.args.birth xs } = c.take_session.ensures.rest in
    same_is c.self.inside.journal.items c.reserve.new.self.items b (with_records c.take_session.new.self b) (with_change (RemoveSession c.args.birth) b)
    c.reserve.ensures.items (ap (λ (q : Records). with_records q b) (rest ∙ ap (λ (ys : List Session). record r { sessions = ys }) same)) (ap (λ (q : Records). with_records q b) rest)
    ∙ ap (λ (v : Changing). become (with_change (RemoveSession c.args.birth) v.broker) v) c.self.view_is

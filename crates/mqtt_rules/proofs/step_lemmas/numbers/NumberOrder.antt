-- All that is stored stays in the order of its keys, change by change and over a step.
use Rattle.std.proofs.Common.{◌≡◌, ℕ, Bool, true, false, cond, not, List, [], ◌∷◌, Some, None, nat_eq, bytes_eq, refl}
use Rattle.std.specs.List.{AllByRecursion}
use Rattle.mqtt_base.specs.declared.limits.TheConstants.{OPEN_LIMIT, SUBSCRIPTION_LIMIT, QUEUE_LIMIT, SESSION_LIMIT, RETAINED_LIMIT}
use Rattle.mqtt_records.specs.declared.state.session.Columns.{Columns}
use Rattle.mqtt_records.specs.declared.state.session.Session.{Session}
use Rattle.mqtt_records.specs.declared.state.records.Records.{Records}
use Rattle.mqtt_records.specs.declared.state.change.Counter.{Counter}
use Rattle.mqtt_records.specs.declared.state.change.Counter.TheVariants.{Births, Publications, Subscribes, Autos, Moment}
use Rattle.mqtt_records.specs.declared.state.change.Change.{Change}
use Rattle.mqtt_records.specs.declared.state.change.Change.TheVariants.{SetCounter, PutSession, SetSession, RemoveSession, PutWill, RemoveWill, PutSubscription, RemoveSubscription, PutInbound, RemoveInbound, PutCopy, SetCopy, RemoveCopy, PutRetained, RemoveRetained}
use Rattle.mqtt_records.specs.lists.Order.{IsAscending, has_row, put_row, change_row}
use Rattle.mqtt_records.specs.state.Session.{birth_of, place_of, number_of, copy_place, fresh, with_columns, with_will, with_subscription, without_subscription, without_filter, with_open, without_open, with_copy, with_phase, without_copy, in_phase}
use Rattle.mqtt_records.specs.state.Records.{nothing, changed, changed_all, put_session, in_session, with_counter, kept_place}
use Rattle.mqtt_records.proofs.lists_lemmas.OrderLemmas.{put-ascending, filter-ascending, remove-ascending, change-ascending}
use Rattle.mqtt_rules.specs.declared.step.Capacity.{Capacity}
use Rattle.mqtt_rules.specs.step.State.{Broker, MemberChoice}
use Rattle.mqtt_rules.specs.step.Deeds.{Deed, rows_of, rows_of_all, after, after_all}
use Rattle.mqtt_rules.specs.step.Step.{Call, deeds, at_moment, env_of, with_moment, done, stepped, opening, unopened, opened}
use Rattle.mqtt_rules.specs.step.Numbers.{IsInOrder, AreInOrder}
use Rattle.mqtt_rules.proofs.step_lemmas.numbers.Copies.{each_filter}
use Rattle.mqtt_rules.proofs.step_lemmas.flight.FlightRows.{all_put, all_changed}

-- sessions, and what each has
abbrev SessionsInOrder : List Session → Type 0
SessionsInOrder ss = IsAscending birth_of ss × AllByRecursion IsInOrder ss

order_cond : (t : Bool) (xs ys : List Session) → SessionsInOrder xs → SessionsInOrder ys → SessionsInOrder (cond t xs ys)
order_cond true xs ys p q = p
order_cond false xs ys p q = q

order_put_session : (row : Columns) (ss : List Session) → SessionsInOrder ss → SessionsInOrder (put_session row ss)
order_put_session row ss h =
    order_cond (has_row birth_of row.birth ss) (change_row birth_of row.birth (with_columns row) ss) (put_row birth_of SESSION_LIMIT (fresh row) ss)
    (change-ascending birth_of row.birth (with_columns row) ss (λ s. refl) h.0, all_changed birth_of IsInOrder row.birth (with_columns row) ss (λ s o. o) h.1)
    (put-ascending birth_of SESSION_LIMIT (fresh row) ss h.0, all_put birth_of IsInOrder SESSION_LIMIT (fresh row) ss (tt, tt, tt) h.1)

-- a part of a session changed, which keeps its birth and its order
order_in : (birth : ℕ) (f : Session → Session) (r : Records) → ((s : Session) → birth_of (f s) ≡ birth_of s) → ((s : Session) → IsInOrder s → IsInOrder (f s)) → AreInOrder r → AreInOrder (in_session birth f r)
order_in birth f r same kept h =
    (change-ascending birth_of birth f r.sessions same h.0, all_changed birth_of IsInOrder birth f r.sessions kept h.1, h.2)

order_counter : (counter : Counter) (value : ℕ) (r : Records) → AreInOrder r → AreInOrder (with_counter counter value r)
order_counter Births value r h = h
order_counter Publications value r h = h
order_counter Subscribes value r h = h
order_counter Autos value r h = h
order_counter Moment value r h = h

order_changed : (change : Change) (r : Records) → AreInOrder r → AreInOrder (changed change r)
order_changed (SetCounter counter value) r h = order_counter counter value r h
order_changed (PutSession row) r h = let o = order_put_session row r.sessions (h.0, h.1) in (o.0, o.1, h.2)
order_changed (SetSession row) r h = order_in row.birth (with_columns row) r (λ s. refl) (λ s o. o) h
order_changed (RemoveSession birth) r h =
    (remove-ascending birth_of birth r.sessions h.0, each_filter IsInOrder (λ s. not (nat_eq (birth_of s) birth)) r.sessions h.1, h.2)
order_changed (PutWill birth will) r h = order_in birth (with_will (Some will)) r (λ s. refl) (λ s o. o) h
order_changed (RemoveWill birth) r h = order_in birth (with_will None) r (λ s. refl) (λ s o. o) h
order_changed (PutSubscription birth sub) r h =
    order_in birth (with_subscription sub) r (λ s. refl)
    (λ s o. (put-ascending place_of SUBSCRIPTION_LIMIT sub (without_filter sub.filter s.subscriptions) (filter-ascending place_of (λ x. not (bytes_eq x.filter sub.filter)) s.subscriptions o.0), o.1, o.2)) h
order_changed (RemoveSubscription birth text) r h =
    order_in birth (without_subscription text) r (λ s. refl) (λ s o. (filter-ascending place_of (λ x. not (bytes_eq x.filter text)) s.subscriptions o.0, o.1, o.2)) h
order_changed (PutInbound birth id) r h = order_in birth (with_open id) r (λ s. refl) (λ s o. (o.0, put-ascending number_of OPEN_LIMIT id s.inbound o.1, o.2)) h
order_changed (RemoveInbound birth id) r h = order_in birth (without_open id) r (λ s. refl) (λ s o. (o.0, remove-ascending number_of id s.inbound o.1, o.2)) h
order_changed (PutCopy birth e) r h = order_in birth (with_copy e) r (λ s. refl) (λ s o. (o.0, o.1, put-ascending copy_place QUEUE_LIMIT e s.queue o.2)) h
order_changed (SetCopy birth place phase) r h =
    order_in birth (with_phase place phase) r (λ s. refl) (λ s o. (o.0, o.1, change-ascending copy_place place (in_phase phase) s.queue (λ e. refl) o.2)) h
order_changed (RemoveCopy birth place) r h = order_in birth (without_copy place) r (λ s. refl) (λ s o. (o.0, o.1, remove-ascending copy_place place s.queue o.2)) h
order_changed (PutRetained kept) r h = (h.0, h.1, put-ascending kept_place RETAINED_LIMIT kept r.retained h.2)
order_changed (RemoveRetained place) r h = (h.0, h.1, remove-ascending kept_place place r.retained h.2)

order_changes : (changes : List Change) (r : Records) → AreInOrder r → AreInOrder (changed_all changes r)
order_changes [] r h = h
order_changes (change ∷ changes) r h = order_changes changes (changed change r) (order_changed change r h)

order_all : (ds : List Deed) (b : Broker) → AreInOrder b.records → AreInOrder (after_all ds b).records
order_all [] b h = h
order_all (d ∷ ds) b h = order_all ds (after d b) (order_changes (rows_of d b.records) b.records h)

moment_order : (rows : List Change) (b : Broker) → AreInOrder b.records → AreInOrder (with_moment rows b).records
moment_order [] b h = h
moment_order (row ∷ rows) b h = h

order_done : (ds : List Deed) (b : Broker) → AreInOrder b.records → AreInOrder (done ds b).records
order_done ds b h = moment_order (rows_of_all ds b.records) (after_all ds b) (order_all ds b h)

-- a step leaves all keys rising
pub step_order : (limits : Capacity) (choice : MemberChoice) (now : ℕ) (call : Call) (b : Broker) → AreInOrder b.records → AreInOrder (stepped limits choice now call b).records
step_order limits choice now call b h = order_done (deeds limits choice now call b) (at_moment now b) h

-- an opening leaves all keys rising
pub opening_order : (limits : Capacity) (choice : MemberChoice) (now : ℕ) (r : Records) → AreInOrder r → AreInOrder (opened limits choice now r).records
opening_order limits choice now r h = let b = unopened now r in order_done (opening (env_of limits choice b) b) b h

-- in nothing stored all keys rise
pub nothing_order : AreInOrder nothing
nothing_order = (tt, tt, tt)

-- Each session keeps having each filter once, whatever changes are made.
use Rattle.std.proofs.Common.{◌≡◌, ℕ, Bool, true, false, cond, not, ◌||◌, List, [], ◌∷◌, length, Option, Some, None, nat_eq, nat_lt, bytes_eq, refl, sym, subst, inl, inr}
use Rattle.std.specs.Prelude.{◌≢◌, find, filter, map}
use Rattle.std.specs.List.{AllByRecursion}
use Rattle.std.proofs.lemmas.Bool.{cases_Bool}
use Rattle.mqtt_base.specs.declared.limits.TheConstants.{SUBSCRIPTION_LIMIT, SESSION_LIMIT}
use Rattle.mqtt_records.specs.lists.Distinct.{AllDiffer}
use Rattle.mqtt_records.specs.lists.Order.{has_row, insert_row, put_row, change_row}
use Rattle.mqtt_records.specs.declared.state.change.Change.{Change}
use Rattle.mqtt_records.specs.declared.state.change.Change.TheVariants.{SetCounter, PutSession, SetSession, RemoveSession, PutWill, RemoveWill, PutSubscription, RemoveSubscription, PutInbound, RemoveInbound, PutCopy, SetCopy, RemoveCopy, PutRetained, RemoveRetained}
use Rattle.mqtt_records.specs.declared.state.change.Counter.{Counter}
use Rattle.mqtt_records.specs.declared.state.change.Counter.TheVariants.{Births, Publications, Subscribes, Autos, Moment}
use Rattle.mqtt_records.specs.declared.state.records.Records.{Records}
use Rattle.mqtt_records.specs.declared.state.session.Columns.{Columns}
use Rattle.mqtt_records.specs.declared.state.session.Session.{Session}
use Rattle.mqtt_records.specs.declared.state.subscription.Subscription.{Subscription}
use Rattle.mqtt_records.specs.state.Session.{birth_of, place_of, fresh, without_filter, with_columns, with_will, with_subscription, without_subscription, with_open, without_open, with_copy, with_phase, without_copy}
use Rattle.mqtt_records.specs.state.Records.{changed, changed_all, put_session, with_counter}
use Rattle.mqtt_rules.specs.step.Subscribe.{Wish, is_to, place_of as place_by, subscription}
use Rattle.mqtt_rules.proofs.step_lemmas.numbers.Copies.{each_filter}
use Rattle.mqtt_rules.proofs.step_lemmas.flight.FlightRows.{all_put, all_changed}
use Rattle.mqtt_broker_step.specs.Subscribing.{filter_of, HasEachFilterOnce, HaveFiltersOnce, MaySubscribe}
use Rattle.mqtt_broker_step.proofs.Filters.{text_same}

-- ---- lists

others_filtered : (f : List ℕ) (keep : Subscription → Bool) (xs : List Subscription) → AllByRecursion (λ g. f ≢ g) (map filter_of xs) → AllByRecursion (λ g. f ≢ g) (map filter_of (filter keep xs))
others_filtered f keep [] h = tt
others_filtered f keep (x ∷ xs) h = elim (cases_Bool (keep x)) [
  | inl stays ↦ rw stays (h.0, others_filtered f keep xs h.1)
  | inr goes ↦ rw goes (others_filtered f keep xs h.1)
]

differ_filtered : (keep : Subscription → Bool) (xs : List Subscription) → AllDiffer (map filter_of xs) → AllDiffer (map filter_of (filter keep xs))
differ_filtered keep [] h = tt
differ_filtered keep (x ∷ xs) h = elim (cases_Bool (keep x)) [
  | inl stays ↦ rw stays (others_filtered x.filter keep xs h.0, differ_filtered keep xs h.1)
  | inr goes ↦ rw goes (differ_filtered keep xs h.1)
]

-- without those to a filter all are to others
without_others : (f : List ℕ) (xs : List Subscription) → AllByRecursion (λ g. f ≢ g) (map filter_of (without_filter f xs))
without_others f [] = tt
without_others f (x ∷ xs) = elim (cases_Bool (bytes_eq x.filter f)) [
  | inl here ↦ rw here (without_others f xs)
  | inr other ↦ rw other ((λ same. never same other), without_others f xs)
]
  where
    never : f ≡ x.filter → bytes_eq x.filter f ≡ false → ⊥
    never same isnt = let yes : bytes_eq x.filter f ≡ true = text_same x.filter f (sym same) in absurd cc

others_inserted : (f : List ℕ) (x : Subscription) (xs : List Subscription) → f ≢ x.filter → AllByRecursion (λ g. f ≢ g) (map filter_of xs) → AllByRecursion (λ g. f ≢ g) (map filter_of (insert_row place_of x xs))
others_inserted f x [] other h = (other, tt)
others_inserted f x (y ∷ ys) other h = elim (cases_Bool (nat_lt x.place y.place)) [
  | inl before ↦ rw before (other, h)
  | inr later ↦ elim (cases_Bool (nat_eq x.place y.place)) [
    | inl same ↦ rw (later, same) (other, h.1)
    | inr apart ↦ rw (later, apart) (h.0, others_inserted f x ys other h.1)
  ]
]

differ_inserted : (x : Subscription) (xs : List Subscription) → AllByRecursion (λ g. x.filter ≢ g) (map filter_of xs) → AllDiffer (map filter_of xs) → AllDiffer (map filter_of (insert_row place_of x xs))
differ_inserted x [] others h = (tt, tt)
differ_inserted x (y ∷ ys) others h = elim (cases_Bool (nat_lt x.place y.place)) [
  | inl before ↦ rw before (others, h)
  | inr later ↦ elim (cases_Bool (nat_eq x.place y.place)) [
    | inl same ↦ rw (later, same) (others.1, h.1)
    | inr apart ↦ rw (later, apart) (others_inserted y.filter x ys (λ e. others.0 (sym e)) h.0, differ_inserted x ys others.1 h.1)
  ]
]

differ_put : (x : Subscription) (xs : List Subscription) → AllByRecursion (λ g. x.filter ≢ g) (map filter_of xs) → AllDiffer (map filter_of xs) → AllDiffer (map filter_of (put_row place_of SUBSCRIPTION_LIMIT x xs))
differ_put x xs others h = elim (cases_Bool (has_row place_of x.place xs || nat_lt (length xs) SUBSCRIPTION_LIMIT)) [
  | inl room ↦ rw room (differ_inserted x xs others h)
  | inr full ↦ rw full h
]

-- ---- sessions

once_put : (x : Subscription) (s : Session) → HasEachFilterOnce s → HasEachFilterOnce (with_subscription x s)
once_put x s h = record {
  differ = differ_put x (without_filter x.filter s.subscriptions) (without_others x.filter s.subscriptions)
      (differ_filtered (λ (y : Subscription). not (bytes_eq y.filter x.filter)) s.subscriptions h.differ);
}

once_without : (f : List ℕ) (s : Session) → HasEachFilterOnce s → HasEachFilterOnce (without_subscription f s)
once_without f s h = record { differ = differ_filtered (λ (y : Subscription). not (bytes_eq y.filter f)) s.subscriptions h.differ }

once_in : (birth : ℕ) (f : Session → Session) (ss : List Session) → ((s : Session) → HasEachFilterOnce s → HasEachFilterOnce (f s)) → AllByRecursion HasEachFilterOnce ss → AllByRecursion HasEachFilterOnce (change_row birth_of birth f ss)
once_in birth f ss kept h = all_changed birth_of HasEachFilterOnce birth f ss kept h

same_once : (s t : Session) → t.subscriptions ≡ s.subscriptions → HasEachFilterOnce s → HasEachFilterOnce t
same_once s t same h = record { differ = subst (λ (xs : List Subscription). AllDiffer (map filter_of xs)) (sym same) h.differ }

once_counter : (counter : Counter) (value : ℕ) (r : Records) → HaveFiltersOnce r → HaveFiltersOnce (with_counter counter value r)
once_counter Births value r h = h
once_counter Publications value r h = h
once_counter Subscribes value r h = h
once_counter Autos value r h = h
once_counter Moment value r h = h

each_cond : (b : Bool) (ss ts : List Session) → AllByRecursion HasEachFilterOnce ss → AllByRecursion HasEachFilterOnce ts → AllByRecursion HasEachFilterOnce (cond b ss ts)
each_cond true ss ts p q = p
each_cond false ss ts p q = q

once_session : (row : Columns) (ss : List Session) → AllByRecursion HasEachFilterOnce ss → AllByRecursion HasEachFilterOnce (put_session row ss)
once_session row ss h =
    each_cond (has_row birth_of row.birth ss) (change_row birth_of row.birth (with_columns row) ss) (put_row birth_of SESSION_LIMIT (fresh row) ss)
    (once_in row.birth (with_columns row) ss (λ s q. same_once s (with_columns row s) refl q) h)
    (all_put birth_of HasEachFilterOnce SESSION_LIMIT (fresh row) ss (record { differ = tt }) h)

once_changed : (change : Change) (r : Records) → HaveFiltersOnce r → HaveFiltersOnce (changed change r)
once_changed (SetCounter counter value) r h = once_counter counter value r h
once_changed (PutSession row) r h = once_session row r.sessions h
once_changed (SetSession row) r h = once_in row.birth (with_columns row) r.sessions (λ s q. same_once s (with_columns row s) refl q) h
once_changed (RemoveSession birth) r h = each_filter HasEachFilterOnce (λ s. not (nat_eq (birth_of s) birth)) r.sessions h
once_changed (PutWill birth will) r h = once_in birth (with_will (Some will)) r.sessions (λ s q. same_once s (with_will (Some will) s) refl q) h
once_changed (RemoveWill birth) r h = once_in birth (with_will None) r.sessions (λ s q. same_once s (with_will None s) refl q) h
once_changed (PutSubscription birth x) r h = once_in birth (with_subscription x) r.sessions (once_put x) h
once_changed (RemoveSubscription birth text) r h = once_in birth (without_subscription text) r.sessions (once_without text) h
once_changed (PutInbound birth id) r h = once_in birth (with_open id) r.sessions (λ s q. same_once s (with_open id s) refl q) h
once_changed (RemoveInbound birth id) r h = once_in birth (without_open id) r.sessions (λ s q. same_once s (without_open id s) refl q) h
once_changed (PutCopy birth row) r h = once_in birth (with_copy row) r.sessions (λ s q. same_once s (with_copy row s) refl q) h
once_changed (SetCopy birth place phase) r h = once_in birth (with_phase place phase) r.sessions (λ s q. same_once s (with_phase place phase s) refl q) h
once_changed (RemoveCopy birth place) r h = once_in birth (without_copy place) r.sessions (λ s q. same_once s (without_copy place s) refl q) h
once_changed (PutRetained kept) r h = h
once_changed (RemoveRetained place) r h = h

-- after any changes each session still has each filter once
pub once_all : (changes : List Change) (r : Records) → HaveFiltersOnce r → HaveFiltersOnce (changed_all changes r)
once_all [] r h = h
once_all (change ∷ changes) r h = once_all changes (changed change r) (once_changed change r h)

-- ---- a wish

place_again : (number : ℕ) (o : Option Subscription) → place_by (place_by number o) o ≡ place_by number o
place_again number None = refl
place_again number (Some x) = refl

-- a session that has each filter once may have the subscription that it asks for
pub may_wish : (number : ℕ) (s : Session) (w : Wish) → HasEachFilterOnce s → MaySubscribe (subscription number s w) s
may_wish number s w h = record { once = h; place = place_again number (find (is_to w.filter) s.subscriptions) }

-- An index that is given the subscriptions of sessions in order has them as the sessions have them.
use Rattle.std.proofs.Common.{◌≡◌, ℕ, ◌<◌, true, false, List, [], ◌∷◌, ◌++◌, map, nat_eq, nat_lt, bytes_eq, refl, ap, sym, subst, ◌∙◌, inl, inr, arith}
use Rattle.std.specs.Prelude.{◌≢◌}
use Rattle.std.specs.List.{AllByRecursion}
use Rattle.std.proofs.lemmas.Bool.{cases_Bool, lt-ltb, le-ltb}
use Rattle.std.proofs.lemmas.Cmp.{nat_eq_equiv}
use Rattle.mqtt_records.specs.declared.state.records.Records.{Records}
use Rattle.mqtt_records.specs.declared.state.session.Session.{Session}
use Rattle.mqtt_records.specs.declared.state.subscription.Subscription.{Subscription}
use Rattle.mqtt_records.specs.state.Session.{birth_of}
use Rattle.mqtt_routes.specs.declared.routing.subscription.Subscription.{Subscription as RoutedSubscription}
use Rattle.mqtt_routes.specs.routing.Subscriptions.{Subscriber, subscriber, beside, has_filter, put, subs_of, subscribed, with_some, with_subs}
use Rattle.mqtt_records.specs.lists.Distinct.{AllDiffer}
use Rattle.mqtt_records.specs.lists.Order.{IsAbove, IsAscending}
use Rattle.mqtt_rules.specs.step.Routing.{routed_subscription, subscriber_of, subscribers}
use Rattle.mqtt_rules.proofs.step_lemmas.numbers.Copies.{each_append, each_more}
use Rattle.mqtt_broker_step.specs.Subscribing.{filter_of, HasEachFilterOnce}
use Rattle.mqtt_broker_step.proofs.Filters.{text_is}
use Rattle.mqtt_broker_queue.specs.subscribers.Following.{CanBeIndexed, given, given_all}
use Rattle.mqtt_broker_queue.specs.subscribers.Indexing.{Serves}
use Rattle.mqtt_broker_queue.proofs.subscribers_lemmas.Along.{serves_of}
use Rattle.mqtt_broker_queue.proofs.subscribers_lemmas.Granting.{routed_all}
use Rattle.mqtt_broker_queue.proofs.subscribers_lemmas.Standing.{order_some, some_twice}
use Rattle.mqtt_broker_queue.proofs.subscribers_lemmas.Subscribers.{subscribers_of, births_in_order}

-- ---- lists

append_nil : {X : Type 0} (xs : List X) → xs ++ [] ≡ xs
append_nil [] = refl
append_nil (x ∷ xs) = ap (λ ys. x ∷ ys) (append_nil xs)

append_both : {X : Type 0} (xs ys zs : List X) → (xs ++ ys) ++ zs ≡ xs ++ (ys ++ zs)
append_both [] ys zs = refl
append_both (x ∷ xs) ys zs = ap (λ ws. x ∷ ws) (append_both xs ys zs)

-- ---- a session comes last

-- all were born before
abbrev pub AreBefore : ℕ → List Subscriber → Type 0
AreBefore birth xs = AllByRecursion (λ (x : Subscriber). x.birth < birth) xs

-- the last session, if it has subscriptions
abbrev pub last_of : ℕ → List RoutedSubscription → List Subscriber
last_of birth subs = with_some (subscriber birth subs ∷ [])

last_subs : (birth : ℕ) (subs : List RoutedSubscription) → subs_of birth (last_of birth subs) ≡ subs
last_subs birth [] = refl
last_subs birth (s ∷ ss) =
    let level : nat_lt birth birth ≡ false = le-ltb birth birth (omega arith) in
    let same : nat_eq birth birth ≡ true = nat_eq_equiv.refl birth in
    rw (level, same) refl

-- the session that comes last has its subscriptions
pub has_last : (birth : ℕ) (subs : List RoutedSubscription) (xs : List Subscriber) → AreBefore birth xs → subs_of birth (xs ++ last_of birth subs) ≡ subs
has_last birth subs [] before = last_subs birth subs
has_last birth subs (x ∷ xs) before = rw (lt-ltb x.birth birth before.0) (has_last birth subs xs before.1)

last_gets : (birth : ℕ) (new subs : List RoutedSubscription) → with_subs birth new (last_of birth subs) ≡ subscriber birth new ∷ []
last_gets birth new [] = refl
last_gets birth new (s ∷ ss) =
    let level : nat_lt birth birth ≡ false = le-ltb birth birth (omega arith) in
    let same : nat_eq birth birth ≡ true = nat_eq_equiv.refl birth in
    rw (level, same) refl

gets_last : (birth : ℕ) (new subs : List RoutedSubscription) (xs : List Subscriber) → AreBefore birth xs → with_subs birth new (xs ++ last_of birth subs) ≡ xs ++ subscriber birth new ∷ []
gets_last birth new subs [] before = last_gets birth new subs
gets_last birth new subs (x ∷ xs) before = rw (lt-ltb x.birth birth before.0) (ap (λ (ys : List Subscriber). x ∷ ys) (gets_last birth new subs xs before.1))

-- ---- its subscriptions, one after another

put_last : (x : RoutedSubscription) (subs : List RoutedSubscription) → has_filter x.filter subs ≡ false → put x subs ≡ subs ++ x ∷ []
put_last x [] new = refl
put_last x (s ∷ ss) new = elim (cases_Bool (bytes_eq s.filter x.filter)) [
  | inl here ↦ let no : true ≡ false = rw here at new in absurd cc
  | inr other ↦ let rest : has_filter x.filter ss ≡ false = rw other at new in rw other (ap (λ (zs : List RoutedSubscription). s ∷ zs) (put_last x ss rest))
]

some_last : (birth : ℕ) (x : RoutedSubscription) (subs : List RoutedSubscription) → subscriber birth (subs ++ x ∷ []) ∷ [] ≡ last_of birth (subs ++ x ∷ [])
some_last birth x [] = refl
some_last birth x (s ∷ ss) = refl

-- it gets one more, behind those that it has
pub one_given : (birth : ℕ) (x : RoutedSubscription) (subs : List RoutedSubscription) (xs : List Subscriber) → AreBefore birth xs → has_filter x.filter subs ≡ false
    → subscribed birth x (xs ++ last_of birth subs) ≡ xs ++ last_of birth (subs ++ x ∷ [])
one_given birth x subs xs before new =
    ap (λ ss. with_subs birth (put x ss) (xs ++ last_of birth subs)) (has_last birth subs xs before)
    ∙ (gets_last birth (put x subs) subs xs before
    ∙ (ap (λ ss. xs ++ subscriber birth ss ∷ []) (put_last x subs new)
    ∙ ap (λ (ys : List Subscriber). xs ++ ys) (some_last birth x subs)))

-- to filters that the session doesn't have
abbrev pub AreNew : List RoutedSubscription → List Subscription → Type 0
AreNew subs xs = AllByRecursion (λ (x : Subscription). has_filter x.filter subs ≡ false) xs

new_beside : (y : List ℕ) (x : RoutedSubscription) (subs : List RoutedSubscription) → has_filter y subs ≡ false → bytes_eq x.filter y ≡ false → has_filter y (subs ++ x ∷ []) ≡ false
new_beside y x [] new other = rw other refl
new_beside y x (s ∷ ss) new other = elim (cases_Bool (bytes_eq s.filter y)) [
  | inl here ↦ let no : true ≡ false = rw here at new in absurd cc
  | inr differs ↦ rw differs (new_beside y x ss (rw differs at new) other)
]

text_differs : (a b : List ℕ) → a ≢ b → bytes_eq a b ≡ false
text_differs a b differ = elim (cases_Bool (bytes_eq a b)) [
  | inl same ↦ absurd (differ (text_is a b same))
  | inr other ↦ other
]

-- filters that differ from one that comes are new still
pub new_later : (x : Subscription) (subs : List RoutedSubscription) (xs : List Subscription) → AllByRecursion (λ g. x.filter ≢ g) (map filter_of xs) → AreNew subs xs → AreNew (subs ++ routed_subscription x ∷ []) xs
new_later x subs [] differ new = tt
new_later x subs (y ∷ ys) differ new =
    (new_beside y.filter (routed_subscription x) subs new.0 (text_differs x.filter y.filter differ.0), new_later x subs ys differ.1 new.1)

given_last : (birth : ℕ) (xs : List Subscription) (subs : List RoutedSubscription) (table : List Subscriber) → AreBefore birth table → AllDiffer (map filter_of xs) → AreNew subs xs
    → given birth xs (table ++ last_of birth subs) ≡ table ++ last_of birth (subs ++ routed_all xs)
given_last birth [] subs table before differ new = ap (λ ss. table ++ last_of birth ss) (sym (append_nil subs))
given_last birth (x ∷ xs) subs table before differ new =
    ap (given birth xs) (one_given birth (routed_subscription x) subs table before new.0)
    ∙ (given_last birth xs (subs ++ routed_subscription x ∷ []) table before differ.1 (new_later x subs xs differ.0 new.1)
    ∙ ap (λ ss. table ++ last_of birth ss) (append_both subs (routed_subscription x ∷ []) (routed_all xs)))

-- to a session without subscriptions each filter is new
pub none_yet : (xs : List Subscription) → AreNew [] xs
none_yet [] = tt
none_yet (x ∷ xs) = (refl, none_yet xs)

-- a session that is given its subscriptions one by one comes last, with all of them
pub session_given : (birth : ℕ) (xs : List Subscription) (table : List Subscriber) → AreBefore birth table → AllDiffer (map filter_of xs) → given birth xs table ≡ table ++ last_of birth (routed_all xs)
session_given birth xs table before differ =
    ap (given birth xs) (sym (append_nil table)) ∙ given_last birth xs [] table before differ (none_yet xs)

-- ---- sessions, one after another

before_later : (m n : ℕ) (xs : List Subscriber) → m < n → AreBefore m xs → AreBefore n xs
before_later m n xs less before = each_more (λ (x : Subscriber). x.birth < m) (λ (x : Subscriber). x.birth < n) (λ x h. omega (arith, h, less)) xs before

last_before : (m n : ℕ) (subs : List RoutedSubscription) → m < n → AreBefore n (last_of m subs)
last_before m n [] less = tt
last_before m n (s ∷ ss) less = (less, tt)

-- as each of the sessions is born after all in the table
abbrev pub AreBeforeAll : List Session → List Subscriber → Type 0
AreBeforeAll ss table = AllByRecursion (λ (s : Session). AreBefore s.birth table) ss

-- the others are born after it too
pub before_all : (m : ℕ) (subs : List RoutedSubscription) (ss : List Session) (table : List Subscriber) → IsAbove birth_of m ss → AreBeforeAll ss table → AreBeforeAll ss (table ++ last_of m subs)
before_all m subs [] table up before = tt
before_all m subs (s ∷ ss) table up before = (
  each_append (λ (x : Subscriber). x.birth < s.birth) table (last_of m subs) before.0 (last_before m s.birth subs up.0),
  before_all m subs ss table up.1 before.1,
)

last_first_by : (subs : List RoutedSubscription) (x : Subscriber) (rest : List Subscriber) → beside subs x [] ++ rest ≡ beside subs x rest
last_first_by [] x rest = refl
last_first_by (s ∷ ss) x rest = refl

all_given : (ss : List Session) (table : List Subscriber) → IsAscending birth_of ss → AllByRecursion HasEachFilterOnce ss → AreBeforeAll ss table → given_all ss table ≡ table ++ with_some (subscribers_of ss)
all_given [] table up once before = sym (append_nil table)
all_given (s ∷ ss) table up once before =
    let last = last_of s.birth (routed_all s.subscriptions) in
    ap (given_all ss) (session_given s.birth s.subscriptions table before.0 once.0.differ)
    ∙ (all_given ss (table ++ last) up.1 once.1 (before_all s.birth (routed_all s.subscriptions) ss table up.0 before.1)
    ∙ (append_both table last (with_some (subscribers_of ss))
    ∙ ap (λ (ys : List Subscriber). table ++ ys) (last_first_by (routed_all s.subscriptions) (subscriber_of s) (with_some (subscribers_of ss)))))

-- all are born after nobody
pub before_none : (ss : List Session) → AreBeforeAll ss []
before_none [] = tt
before_none (s ∷ ss) = (tt, before_none ss)

-- a table that is given the subscriptions of all sessions serves them
pub serves_given : (r : Records) (table : List Subscriber) → CanBeIndexed r → table ≡ given_all r.sessions [] → Serves table (subscribers r)
serves_given r table h is =
    let up = h.ordered.sessions.ascending in
    let has : table ≡ with_some (subscribers r) = is ∙ all_given r.sessions [] up h.filters (before_none r.sessions) in
    subst (λ (xs : List Subscriber). Serves xs (subscribers r)) (sym has)
    (serves_of (with_some (subscribers r)) r h (order_some (subscribers r) (births_in_order r.sessions up)) (some_twice (subscribers r)))

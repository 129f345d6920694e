-- A subscription that is put finds room in the index: if its row can be followed, and if it is one of those that are stored.
use Rattle.std.proofs.Common.{◌≡◌, ℕ, ◌+◌, ◌≤◌, ◌<◌, Bool, true, false, ◌||◌, List, [], ◌∷◌, ◌++◌, length, map, Option, Some, None, nat_lt, bytes_eq, refl, ap, sym, subst, ◌∙◌, inl, inr, arith}
use Rattle.std.specs.List.{AllByRecursion}
use Rattle.std.proofs.lemmas.Bool.{cases_Bool, lt-ltb}
use Rattle.std.proofs.lemmas.List.{length-map}
use Rattle.std.proofs.Common.{length-append}
use Rattle.mqtt_base.specs.declared.limits.TheConstants.{SUBSCRIPTION_LIMIT}
use Rattle.mqtt_records.specs.state.Records.{HasSome, changed}
use Rattle.mqtt_records.specs.state.Session.{birth_of, without_filter}
use Rattle.mqtt_records.specs.declared.state.change.Change.{Change}
use Rattle.mqtt_records.specs.declared.state.change.Change.TheVariants.{SetCounter, PutSession, SetSession, RemoveSession, PutWill, RemoveWill, PutSubscription, RemoveSubscription, PutInbound, RemoveInbound, PutCopy, SetCopy, RemoveCopy, PutRetained, RemoveRetained}
use Rattle.mqtt_records.specs.declared.state.records.Records.{Records}
use Rattle.mqtt_records.specs.declared.state.session.Session.{Session}
use Rattle.mqtt_records.specs.declared.state.subscription.Subscription.{Subscription}
use Rattle.mqtt_records.specs.lists.Distinct.{AllDiffer}
use Rattle.mqtt_records.specs.lists.Order.{IsAscending, row_at}
use Rattle.mqtt_routes.specs.declared.routing.subscription.Subscription.{Subscription as RoutedSubscription}
use Rattle.mqtt_routes.specs.routing.Subscriptions.{Subscriber, has_filter, subs_of, takes_filter}
use Rattle.mqtt_rules.specs.step.Contents.{IsAskedFor}
use Rattle.mqtt_rules.specs.step.Laws.{HasTables}
use Rattle.mqtt_rules.specs.step.Routing.{routed_subscription, subscribers}
use Rattle.mqtt_broker_step.specs.Subscribing.{filter_of, HasEachFilterOnce}
use Rattle.mqtt_broker_queue.specs.subscribers.Following.{CanAllBeFollowed, CanAllBeGiven, CanBeFollowed, CanBeGiven, CanBeIndexed, CanGoAlong, CanGoAlongAll, HasAsked, IsGranted, followed}
use Rattle.mqtt_broker_queue.specs.subscribers.Indexing.{Serves}
use Rattle.mqtt_broker_queue.proofs.subscribers_lemmas.Along.{in_order, indexed_changed, serves_followed}
use Rattle.mqtt_broker_queue.proofs.subscribers_lemmas.Building.{AreBefore, AreBeforeAll, AreNew, before_all, before_none, has_last, last_of, new_later, none_yet, one_given, session_given}
use Rattle.mqtt_broker_queue.proofs.subscribers_lemmas.Granting.{routed_all}
use Rattle.mqtt_broker_queue.proofs.subscribers_lemmas.Standing.{subs_some}
use Rattle.mqtt_broker_queue.proofs.subscribers_lemmas.Subscribers.{found_subs}

-- ---- room

room_by : (a b : Bool) → (a ≡ false → b ≡ true) → (a || b) ≡ true
room_by true b h = refl
room_by false b h = h refl

none_without : (f : List ℕ) (xs : List Subscription) → has_filter f (routed_all xs) ≡ false → without_filter f xs ≡ xs
none_without f [] none = refl
none_without f (x ∷ xs) none = elim (cases_Bool (bytes_eq x.filter f)) [
  | inl here ↦ let no : true ≡ false = rw here at none in absurd cc
  | inr other ↦ rw other (ap (λ (ys : List Subscription). x ∷ ys) (none_without f xs (rw other at none)))
]

-- beside the subscriptions to other filters
beside_others : (f : List ℕ) (xs : List Subscription) → length (without_filter f xs) < SUBSCRIPTION_LIMIT → takes_filter f (routed_all xs) ≡ true
beside_others f xs room = room_by (has_filter f (routed_all xs)) (nat_lt (length (routed_all xs)) SUBSCRIPTION_LIMIT) (λ none.
    let same : length (without_filter f xs) ≡ length xs = ap length (none_without f xs none) in
    let mapped : length (routed_all xs) ≡ length xs = length-map xs routed_subscription in
    lt-ltb (length (routed_all xs)) SUBSCRIPTION_LIMIT (omega (arith, room, same, mapped)))

-- ---- rows

-- what a session has in a table that serves the records
served_subs : (birth : ℕ) (s : Session) (r : Records) (table : List Subscriber) → CanBeIndexed r → Serves table (subscribers r) → row_at birth_of birth r.sessions ≡ Some s → subs_of birth table ≡ routed_all s.subscriptions
served_subs birth s r table h serves there =
    subs_some birth table serves.order
    ∙ (ap (subs_of birth) serves.same
    ∙ (sym (subs_some birth (subscribers r) (in_order r h))
    ∙ found_subs birth s r.sessions h.ordered.sessions.ascending there))

granted_room : (birth : ℕ) (x : Subscription) (o : Option Session) (r : Records) (table : List Subscriber) → CanBeIndexed r → Serves table (subscribers r) → row_at birth_of birth r.sessions ≡ o → HasSome o (IsGranted x)
    → takes_filter x.filter (subs_of birth table) ≡ true
granted_room birth x None r table h serves there granted = absurd granted
granted_room birth x (Some s) r table h serves there granted =
    ap (takes_filter x.filter) (served_subs birth s r table h serves there) ∙ beside_others x.filter s.subscriptions granted.room

can_go_along : (change : Change) (r : Records) (table : List Subscriber) → CanBeIndexed r → CanBeFollowed change r → Serves table (subscribers r) → CanGoAlong change table
can_go_along (PutSubscription birth x) r table h may serves =
    record { filter = may.1.filter; room = granted_room birth x (row_at birth_of birth r.sessions) r table h serves refl may.0 }
can_go_along (SetCounter counter value) r table h may serves = tt
can_go_along (PutSession row) r table h may serves = tt
can_go_along (SetSession row) r table h may serves = tt
can_go_along (RemoveSession birth) r table h may serves = tt
can_go_along (PutWill birth will) r table h may serves = tt
can_go_along (RemoveWill birth) r table h may serves = tt
can_go_along (RemoveSubscription birth text) r table h may serves = tt
can_go_along (PutInbound birth id) r table h may serves = tt
can_go_along (RemoveInbound birth id) r table h may serves = tt
can_go_along (PutCopy birth row) r table h may serves = tt
can_go_along (SetCopy birth place phase) r table h may serves = tt
can_go_along (RemoveCopy birth place) r table h may serves = tt
can_go_along (PutRetained kept) r table h may serves = tt
can_go_along (RemoveRetained place) r table h may serves = tt

-- an index that serves what is stored can go along with rows that can be followed
pub can_go_along_all : (changes : List Change) (r : Records) (table : List Subscriber) → CanBeIndexed r → CanAllBeFollowed changes r → Serves table (subscribers r) → CanGoAlongAll changes table
can_go_along_all [] r table h may serves = tt
can_go_along_all (change ∷ changes) r table h may serves = (
  can_go_along change r table h may.0 serves,
  can_go_along_all changes (changed change r) (followed change table) (indexed_changed change r h may.0) may.1 (serves_followed change r table h may.0 serves),
)

-- ---- sessions

given_room : (birth : ℕ) (x : Subscription) (subs : List RoutedSubscription) (table : List Subscriber) → AreBefore birth table → length subs < SUBSCRIPTION_LIMIT
    → takes_filter x.filter (subs_of birth (table ++ last_of birth subs)) ≡ true
given_room birth x subs table before few =
    ap (takes_filter x.filter) (has_last birth subs table before)
    ∙ room_by (has_filter x.filter subs) (nat_lt (length subs) SUBSCRIPTION_LIMIT) (λ none. lt-ltb (length subs) SUBSCRIPTION_LIMIT few)

last_can_be_given : (birth : ℕ) (xs : List Subscription) (subs : List RoutedSubscription) (table : List Subscriber) → AreBefore birth table → AllDiffer (map filter_of xs) → AreNew subs xs
    → AllByRecursion IsAskedFor xs → length subs + length xs ≤ SUBSCRIPTION_LIMIT → CanBeGiven birth xs (table ++ last_of birth subs)
last_can_be_given birth [] subs table before differ new asked few = tt
last_can_be_given birth (x ∷ xs) subs table before differ new asked few =
    let longer : length (subs ++ routed_subscription x ∷ []) ≡ length subs + 1 = length-append subs (routed_subscription x ∷ []) in (
      record { filter = asked.0.filter; room = given_room birth x subs table before (omega (arith, few)) },
      subst (CanBeGiven birth xs) (sym (one_given birth (routed_subscription x) subs table before new.0))
          (last_can_be_given birth xs (subs ++ routed_subscription x ∷ []) table before differ.1 (new_later x subs xs differ.0 new.1) asked.1 (omega (arith, few, longer))),
    )

append_nil : (xs : List Subscriber) → xs ++ [] ≡ xs
append_nil [] = refl
append_nil (x ∷ xs) = ap (λ (ys : List Subscriber). x ∷ ys) (append_nil xs)

session_can_be_given : (birth : ℕ) (xs : List Subscription) (table : List Subscriber) → AreBefore birth table → AllDiffer (map filter_of xs) → AllByRecursion IsAskedFor xs → length xs ≤ SUBSCRIPTION_LIMIT
    → CanBeGiven birth xs table
session_can_be_given birth xs table before differ asked few =
    subst (CanBeGiven birth xs) (append_nil table) (last_can_be_given birth xs [] table before differ (none_yet xs) asked (omega (arith, few)))

all_can_be_given : (ss : List Session) (table : List Subscriber) → IsAscending birth_of ss → AllByRecursion HasEachFilterOnce ss → AllByRecursion HasTables ss → AllByRecursion HasAsked ss → AreBeforeAll ss table
    → CanAllBeGiven ss table
all_can_be_given [] table up once tables asked before = tt
all_can_be_given (s ∷ ss) table up once tables asked before = (
  session_can_be_given s.birth s.subscriptions table before.0 once.0.differ asked.0 tables.0.subscriptions.within,
  subst (CanAllBeGiven ss) (sym (session_given s.birth s.subscriptions table before.0 once.0.differ))
      (all_can_be_given ss (table ++ last_of s.birth (routed_all s.subscriptions)) up.1 once.1 tables.1 asked.1 (before_all s.birth (routed_all s.subscriptions) ss table up.0 before.1)),
)

-- an index that is empty can be given all that is stored
pub records_can_be_given : (r : Records) → CanBeIndexed r → CanAllBeGiven r.sessions []
records_can_be_given r h = all_can_be_given r.sessions [] h.ordered.sessions.ascending h.filters h.ordered.each h.asked (before_none r.sessions)

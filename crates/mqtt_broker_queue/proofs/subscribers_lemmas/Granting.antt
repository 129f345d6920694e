-- Subscriptions of a session, as records have them and as routing has them (MQTT 5.0, 3.8.4, 3.10.4).
use Rattle.std.proofs.Common.{◌≡◌, ℕ, ◌<◌, Bool, true, false, cond, ◌||◌, List, [], ◌∷◌, length, map, Option, Some, None, nat_eq, nat_lt, bytes_eq, refl, ap, sym, subst, ◌∙◌, inl, inr, arith}
use Rattle.std.specs.Prelude.{◌≢◌, find}
use Rattle.std.specs.List.{AllByRecursion, list_any}
use Rattle.std.proofs.lemmas.Bool.{cases_Bool, lt-ltb, le-ltb}
use Rattle.mqtt_base.specs.declared.limits.TheConstants.{SUBSCRIPTION_LIMIT}
use Rattle.mqtt_records.specs.declared.state.session.Session.{Session}
use Rattle.mqtt_records.specs.declared.state.subscription.Subscription.{Subscription}
use Rattle.mqtt_records.specs.state.Session.{place_of, without_filter, put_subscription}
use Rattle.mqtt_routes.specs.declared.routing.subscription.Subscription.{Subscription as RoutedSubscription}
use Rattle.mqtt_routes.specs.routing.Subscriptions.{put, without}
use Rattle.mqtt_records.specs.lists.Distinct.{AllDiffer}
use Rattle.mqtt_records.specs.lists.Order.{IsAbove, IsAscending, IsBelow, has_row, insert_row}
use Rattle.mqtt_records.proofs.lists_lemmas.OrderLemmas.{apart}
use Rattle.mqtt_rules.specs.step.Routing.{routed_subscription}
use Rattle.mqtt_rules.specs.step.Subscribe.{is_to, place_among}
use Rattle.mqtt_rules.specs.step.Subscribe as sub
use Rattle.mqtt_rules.proofs.step_lemmas.flight.FlightRows.{above_found}
use Rattle.mqtt_broker_step.specs.Subscribing.{filter_of}
use Rattle.mqtt_broker_step.proofs.Filters.{text_is, found_row}
use Rattle.mqtt_broker_queue.specs.subscribers.Following.{IsGranted}

-- subscriptions as routing has them
abbrev pub routed_all : List Subscription → List RoutedSubscription
routed_all xs = map routed_subscription xs

-- ---- one goes

-- if all are to other filters, none goes
others_stay : (f : List ℕ) (xs : List Subscription) → AllByRecursion (λ g. f ≢ g) (map filter_of xs) → without_filter f xs ≡ xs
others_stay f [] differ = refl
others_stay f (x ∷ xs) differ = elim (cases_Bool (bytes_eq x.filter f)) [
  | inl here ↦ absurd (differ.0 (sym (text_is x.filter f here)))
  | inr other ↦ rw other (ap (λ (ys : List Subscription). x ∷ ys) (others_stay f xs differ.1))
]

-- likewise if another filter is the same
those_stay : (f g : List ℕ) (xs : List Subscription) → g ≡ f → AllByRecursion (λ h. g ≢ h) (map filter_of xs) → without_filter f xs ≡ xs
those_stay f g xs same differ = subst (λ (t : List ℕ). without_filter t xs ≡ xs) same (others_stay g xs differ)

-- a filter that goes in the records goes in routing too
pub same_without : (text : List ℕ) (xs : List Subscription) → AllDiffer (map filter_of xs) → routed_all (without_filter text xs) ≡ without text (routed_all xs)
same_without text [] differ = refl
same_without text (x ∷ xs) differ = elim (cases_Bool (bytes_eq x.filter text)) [
  | inl here ↦ rw here (ap routed_all (those_stay text x.filter xs (text_is x.filter text here) differ.0))
  | inr other ↦ rw other (ap (λ (ys : List RoutedSubscription). routed_subscription x ∷ ys) (same_without text xs differ.1))
]

-- ---- one comes

-- it stands before all that have later places
insert_first : (x : Subscription) (xs : List Subscription) → IsAbove place_of x.place xs → insert_row place_of x xs ≡ x ∷ xs
insert_first x [] up = refl
insert_first x (y ∷ ys) up = rw (lt-ltb x.place y.place up.0) refl

any_none : (test : Subscription → Bool) (xs : List Subscription) → find test xs ≡ None → list_any test xs ≡ false
any_none test [] e = refl
any_none test (x ∷ xs) e = elim (cases_Bool (test x)) [
  | inl here ↦ let no : Some x ≡ None = rw here at e in absurd cc
  | inr other ↦ rw other (any_none test xs (rw other at e))
]

-- one that stands before others than that to the filter has a lower place
place_later : (x y : Subscription) (ys : List Subscription) (o : Option Subscription) → find (is_to x.filter) ys ≡ o → IsAscending place_of (y ∷ ys) → sub.place_of x.place o ≡ x.place
    → (list_any (is_to x.filter) ys ≡ false → y.place < x.place) → y.place < x.place
place_later x y ys None found up place last = last (any_none (is_to x.filter) ys found)
place_later x y ys (Some z) found up place last =
    let less = above_found place_of y.place z.place z ys up.0 (found_row x.filter z ys up.1 found) in omega (arith, place, less)

same_insert : (x : Subscription) (xs : List Subscription) → IsAscending place_of xs → AllDiffer (map filter_of xs) → place_among x.place x.filter xs ≡ x.place
    → (list_any (is_to x.filter) xs ≡ false → IsBelow place_of x.place xs)
    → routed_all (insert_row place_of x (without_filter x.filter xs)) ≡ put (routed_subscription x) (routed_all xs)
same_insert x [] up differ place last = refl
same_insert x (y ∷ ys) up differ place last = elim (cases_Bool (bytes_eq y.filter x.filter)) [
  | inl here ↦
      let stands : y.place ≡ x.place = rw here at place in
      let rest : without_filter x.filter ys ≡ ys = those_stay x.filter y.filter ys (text_is y.filter x.filter here) differ.0 in
      let above : IsAbove place_of x.place ys = subst (λ (n : ℕ). IsAbove place_of n ys) stands up.0 in
      let first : routed_all (insert_row place_of x (without_filter x.filter ys)) ≡ routed_subscription x ∷ routed_all ys =
      ap (λ zs. routed_all (insert_row place_of x zs)) rest ∙ ap routed_all (insert_first x ys above) in
      rw here (first ∙ ap (λ (n : ℕ). record (routed_subscription x) { place = n } ∷ routed_all ys) (sym stands))
  | inr other ↦
      let in_rest : place_among x.place x.filter ys ≡ x.place = rw other at place in
      let below : list_any (is_to x.filter) ys ≡ false → IsBelow place_of x.place (y ∷ ys) = λ none. last (rw other none) in
      let less = place_later x y ys (find (is_to x.filter) ys) refl up in_rest (λ none. (below none).0) in
      let behind : nat_lt x.place y.place ≡ false = le-ltb x.place y.place (omega (arith, less)) in
      let differs : nat_eq x.place y.place ≡ false = apart x.place y.place (λ e. omega (arith, e, less)) in
      rw (other, behind, differs) (ap (λ (zs : List RoutedSubscription). routed_subscription y ∷ zs) (same_insert x ys up.1 differ.1 in_rest (λ none. (below none).1)))
]

or_right : (a b : Bool) → b ≡ true → (a || b) ≡ true
or_right true b is = refl
or_right false b is = is

-- one that is granted is put at the same place in both
pub same_put : (x : Subscription) (s : Session) → IsAscending place_of s.subscriptions → AllDiffer (map filter_of s.subscriptions) → IsGranted x s
    → routed_all (put_subscription x s.subscriptions) ≡ put (routed_subscription x) (routed_all s.subscriptions)
same_put x s up differ granted =
    let others = without_filter x.filter s.subscriptions in
    let room : (has_row place_of x.place others || nat_lt (length others) SUBSCRIPTION_LIMIT) ≡ true =
    or_right (has_row place_of x.place others) (nat_lt (length others) SUBSCRIPTION_LIMIT) (lt-ltb (length others) SUBSCRIPTION_LIMIT granted.room) in
    ap (λ (t : Bool). routed_all (cond t (insert_row place_of x others) others)) room
    ∙ same_insert x s.subscriptions up differ granted.place granted.last

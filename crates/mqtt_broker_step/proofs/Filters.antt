-- Subscriptions of which each is to another filter: what is found by filter, and what takes back that one is put or removed.
use Rattle.std.proofs.Common.{◌≡◌, ℕ, Bool, true, false, cond, ◌||◌, List, [], ◌∷◌, length, Option, Some, None, nat_eq, nat_lt, bytes_eq, refl, ap, sym, subst, ◌∙◌, inl, inr, arith}
use Rattle.std.specs.Prelude.{◌≢◌, ◌<◌, find, map, is_some}
use Rattle.std.specs.List.{AllByRecursion}
use Rattle.std.proofs.lemmas.Bool.{cases_Bool, eqb-true, eq-eqb, le-ltb}
use Rattle.std.proofs.lemmas.Slice.Eq.{bytes_eq-Decides}
use Rattle.mqtt_base.specs.declared.limits.TheConstants.{SUBSCRIPTION_LIMIT}
use Rattle.mqtt_records.specs.lists.Distinct.{AllDiffer}
use Rattle.mqtt_records.specs.lists.Order.{IsAscending, row_at, has_row, insert_row, put_row, remove_row}
use Rattle.mqtt_records.proofs.lists_lemmas.OrderLemmas.{apart, above_none, remove-none}
use Rattle.mqtt_records.proofs.lists_lemmas.LookUps.{row_at-here, row_at-remove_row}
use Rattle.mqtt_records.specs.declared.state.subscription.Subscription.{Subscription}
use Rattle.mqtt_records.specs.state.Session.{place_of, without_filter, put_subscription}
use Rattle.mqtt_records.specs.lists.Order.{IsTable}
use Rattle.mqtt_rules.specs.step.Subscribe.{is_to}
use Rattle.mqtt_rules.proofs.step_lemmas.flight.FlightRows.{above_found, found_behind}
use Rattle.mqtt_broker_step.specs.Subscribing.{filter_of}
use Rattle.mqtt_broker_step.proofs.Inverse.{removed_back, put_over}

-- ---- texts

-- texts that compare as equal are equal
pub text_is : (a b : List ℕ) → bytes_eq a b ≡ true → a ≡ b
text_is a b e = (bytes_eq-Decides a b).0 e

-- equal texts compare as equal
pub text_same : (a b : List ℕ) → a ≡ b → bytes_eq a b ≡ true
text_same a b e = (bytes_eq-Decides a b).1 e

text_differs : (a b : List ℕ) → b ≢ a → bytes_eq a b ≡ false
text_differs a b differ = elim (cases_Bool (bytes_eq a b)) [
  | inl same ↦ absurd (differ (sym (text_is a b same)))
  | inr other ↦ other
]

-- ---- what is found by filter

-- if none is to the filter, none goes
pub none_without : (f : List ℕ) (xs : List Subscription) → find (is_to f) xs ≡ None → without_filter f xs ≡ xs
none_without f [] none = refl
none_without f (x ∷ xs) none = elim (cases_Bool (bytes_eq x.filter f)) [
  | inl here ↦ let no : Some x ≡ None = rw here at none in absurd cc
  | inr other ↦ rw other (ap (λ (ys : List Subscription). x ∷ ys) (none_without f xs (rw other at none)))
]

-- the subscription that is found by a filter is to that filter
pub found_filter : (f : List ℕ) (x : Subscription) (xs : List Subscription) → find (is_to f) xs ≡ Some x → x.filter ≡ f
found_filter f x [] found = absurd cc
found_filter f x (y ∷ ys) found = elim (cases_Bool (bytes_eq y.filter f)) [
  | inl here ↦
      let first : Some y ≡ Some x = rw here at found in
      let is : y ≡ x = cc in
      ap filter_of (sym is) ∙ text_is y.filter f here
  | inr other ↦ found_filter f x ys (rw other at found)
]

-- what is found by its filter is found by its place
pub found_row : (f : List ℕ) (x : Subscription) (xs : List Subscription) → IsAscending place_of xs → find (is_to f) xs ≡ Some x → row_at place_of x.place xs ≡ Some x
found_row f x [] up found = absurd cc
found_row f x (y ∷ ys) up found = elim (cases_Bool (bytes_eq y.filter f)) [
  | inl here ↦
      let first : Some y ≡ Some x = rw here at found in
      let is : y ≡ x = cc in
      subst (λ (z : Subscription). row_at place_of z.place (y ∷ ys) ≡ Some z) is (row_at-here place_of y ys)
  | inr other ↦ found_behind place_of x.place x y ys up.0 (found_row f x ys up.1 (rw other at found))
]

-- if all are to other filters, none goes
others_stay : (f : List ℕ) (xs : List Subscription) → AllByRecursion (λ g. f ≢ g) (map filter_of xs) → without_filter f xs ≡ xs
others_stay f [] differ = refl
others_stay f (x ∷ xs) differ = rw (text_differs x.filter f differ.0) (ap (λ (ys : List Subscription). x ∷ ys) (others_stay f xs differ.1))

-- the only one to the filter goes
pub found_without : (f : List ℕ) (x : Subscription) (xs : List Subscription) → IsAscending place_of xs → AllDiffer (map filter_of xs) → find (is_to f) xs ≡ Some x
    → without_filter f xs ≡ remove_row place_of x.place xs
found_without f x [] up differ found = absurd cc
found_without f x (y ∷ ys) up differ found = elim (cases_Bool (bytes_eq y.filter f)) [
  | inl here ↦
      let first : Some y ≡ Some x = rw here at found in
      let is : y ≡ x = cc in
      let same : nat_eq y.place x.place ≡ true = eq-eqb y.place x.place (ap place_of is) in
      let text : y.filter ≡ f = text_is y.filter f here in
      let rest : without_filter f ys ≡ ys = subst (λ (t : List ℕ). without_filter t ys ≡ ys) text (others_stay y.filter ys differ.0) in
      let none : row_at place_of x.place ys ≡ None = subst (λ (z : Subscription). row_at place_of z.place ys ≡ None) is (above_none place_of y.place ys up.0) in
      rw (here, same) (rest ∙ sym (remove-none place_of x.place ys none))
  | inr other ↦
      let later : find (is_to f) ys ≡ Some x = rw other at found in
      let less = above_found place_of y.place x.place x ys up.0 (found_row f x ys up.1 later) in
      let apart_is : nat_eq y.place x.place ≡ false = apart y.place x.place (λ e. omega (arith, e, less)) in
      rw (other, apart_is) (ap (λ (zs : List Subscription). y ∷ zs) (found_without f x ys up.1 differ.1 later))
]

without_twice : (f : List ℕ) (xs : List Subscription) → without_filter f (without_filter f xs) ≡ without_filter f xs
without_twice f [] = refl
without_twice f (x ∷ xs) = elim (cases_Bool (bytes_eq x.filter f)) [
  | inl here ↦ rw here (without_twice f xs)
  | inr other ↦ rw (other, other) (ap (λ (ys : List Subscription). x ∷ ys) (without_twice f xs))
]

-- ---- one that is put, if its place is free

insert_without : (f : List ℕ) (x : Subscription) (xs : List Subscription) → bytes_eq x.filter f ≡ true → row_at place_of x.place xs ≡ None
    → without_filter f (insert_row place_of x xs) ≡ without_filter f xs
insert_without f x [] is none = rw is refl
insert_without f x (y ∷ ys) is none = elim (cases_Bool (nat_eq y.place x.place)) [
  | inl here ↦ let no : Some y ≡ None = rw here at none in absurd cc
  | inr apart_is ↦
      let free : row_at place_of x.place ys ≡ None = rw apart_is at none in
      let other : nat_eq x.place y.place ≡ false = apart x.place y.place (λ e. never e apart_is) in
      elim (cases_Bool (nat_lt x.place y.place)) [
        | inl before ↦ rw (before, is) refl
        | inr later ↦ elim (cases_Bool (bytes_eq y.filter f)) [
          | inl goes ↦ rw (later, other, goes) (insert_without f x ys is free)
          | inr stays ↦ rw (later, other, stays) (ap (λ (zs : List Subscription). y ∷ zs) (insert_without f x ys is free))
        ]
      ]
]
  where
    never : x.place ≡ y.place → nat_eq y.place x.place ≡ false → ⊥
    never e isnt = let yes : nat_eq y.place x.place ≡ true = eq-eqb y.place x.place (sym e) in absurd cc

-- if a subscription is put at a free place, those to other filters are the same as before
pub put_without : (f : List ℕ) (x : Subscription) (xs : List Subscription) → x.filter ≡ f → row_at place_of x.place xs ≡ None
    → without_filter f (put_row place_of SUBSCRIPTION_LIMIT x xs) ≡ without_filter f xs
put_without f x xs is none = elim (cases_Bool (has_row place_of x.place xs || nat_lt (length xs) SUBSCRIPTION_LIMIT)) [
  | inl room ↦ rw room (insert_without f x xs (text_same x.filter f is) none)
  | inr full ↦ rw full refl
]

-- ---- what takes back

-- the one to the same filter is put back
pub put_again : (x y : Subscription) (xs : List Subscription) → IsTable place_of SUBSCRIPTION_LIMIT xs → AllDiffer (map filter_of xs) → find (is_to x.filter) xs ≡ Some y → y.place ≡ x.place
    → put_subscription y (put_subscription x xs) ≡ xs
put_again x y xs table differ found place =
    let text : y.filter ≡ x.filter = found_filter x.filter y xs found in
    let less : without_filter x.filter xs ≡ remove_row place_of y.place xs = found_without x.filter y xs table.ascending differ found in
    let free : row_at place_of x.place (without_filter x.filter xs) ≡ None =
    ap (row_at place_of x.place) less
    ∙ (row_at-remove_row place_of x.place y.place xs
    ∙ ap (λ (b : Bool). cond b None (row_at place_of x.place xs)) (eq-eqb y.place x.place place)) in
    let back : without_filter y.filter (put_subscription x xs) ≡ remove_row place_of y.place xs =
    ap (λ (t : List ℕ). without_filter t (put_subscription x xs)) text
    ∙ (put_without x.filter x (without_filter x.filter xs) refl free ∙ (without_twice x.filter xs ∙ less)) in
    ap (put_row place_of SUBSCRIPTION_LIMIT y) back
    ∙ removed_back place_of SUBSCRIPTION_LIMIT y.place y xs table.ascending (found_row x.filter y xs table.ascending found) table.within

-- a new one goes
pub put_gone : (x : Subscription) (xs : List Subscription) → find (is_to x.filter) xs ≡ None → row_at place_of x.place xs ≡ None
    → without_filter x.filter (put_subscription x xs) ≡ xs
put_gone x xs none free =
    let same : without_filter x.filter xs ≡ xs = none_without x.filter xs none in
    ap (λ ys. without_filter x.filter (put_row place_of SUBSCRIPTION_LIMIT x ys)) same ∙ (put_without x.filter x xs refl free ∙ same)

-- the one whose place it took is put back
row_differs : (f : List ℕ) (k : ℕ) (y : Subscription) (xs : List Subscription) → AllByRecursion (λ g. f ≢ g) (map filter_of xs) → row_at place_of k xs ≡ Some y → f ≢ y.filter
row_differs f k y [] differ found = absurd cc
row_differs f k y (x ∷ xs) differ found = elim (cases_Bool (nat_eq x.place k)) [
  | inl here ↦
      let first : Some x ≡ Some y = rw here at found in
      let is : x ≡ y = cc in
      subst (λ (z : Subscription). f ≢ z.filter) is differ.0
  | inr later ↦ row_differs f k y xs differ.1 (rw later at found)
]

taken_stays : (x y : Subscription) (xs : List Subscription) → IsAscending place_of xs → AllDiffer (map filter_of xs) → row_at place_of x.place xs ≡ Some y → y.filter ≢ x.filter
    → without_filter y.filter (insert_row place_of x xs) ≡ insert_row place_of x xs
taken_stays x y [] up differ found other = absurd cc
taken_stays x y (z ∷ zs) up differ found other = elim (cases_Bool (nat_eq z.place x.place)) [
  | inl here ↦
      let first : Some z ≡ Some y = rw here at found in
      let is : z ≡ y = cc in
      let place : z.place ≡ x.place = eqb-true z.place x.place here in
      let same : nat_eq x.place z.place ≡ true = eq-eqb x.place z.place (sym place) in
      let level : nat_lt x.place z.place ≡ false = not_less x.place z.place place in
      let rest : without_filter y.filter zs ≡ zs = subst (λ (w : Subscription). without_filter w.filter zs ≡ zs) is (others_stay z.filter zs differ.0) in
      rw (level, same, text_differs x.filter y.filter other) (ap (λ (ws : List Subscription). x ∷ ws) rest)
  | inr later ↦
      let there : row_at place_of x.place zs ≡ Some y = rw later at found in
      let less = above_found place_of z.place x.place y zs up.0 there in
      let behind : nat_lt x.place z.place ≡ false = not_below x.place z.place less in
      let apart_is : nat_eq x.place z.place ≡ false = apart x.place z.place (λ e. omega (arith, e, less)) in
      let stays : bytes_eq z.filter y.filter ≡ false = text_differs z.filter y.filter (λ e. row_differs z.filter x.place y zs differ.0 there (sym e)) in
      rw (behind, apart_is, stays) (ap (λ (ws : List Subscription). z ∷ ws) (taken_stays x y zs up.1 differ.1 there other))
]
  where
    not_less : (m n : ℕ) → n ≡ m → nat_lt m n ≡ false
    not_less m n e = le-ltb m n (omega (arith, e))

    not_below : (m n : ℕ) → n < m → nat_lt m n ≡ false
    not_below m n less = le-ltb m n (omega (arith, less))

-- the one whose place a new one took is put back there, and the new one is gone
pub put_beside : (x y : Subscription) (xs : List Subscription) → IsTable place_of SUBSCRIPTION_LIMIT xs → AllDiffer (map filter_of xs) → find (is_to x.filter) xs ≡ None → row_at place_of x.place xs ≡ Some y
    → put_subscription y (put_subscription x xs) ≡ xs
put_beside x y xs table differ none found =
    let same : without_filter x.filter xs ≡ xs = none_without x.filter xs none in
    let other : y.filter ≢ x.filter = λ e. not_found (text_same y.filter x.filter e) in
    let room : (has_row place_of x.place xs || nat_lt (length xs) SUBSCRIPTION_LIMIT) ≡ true = ap (λ (o : Option Subscription). is_some o || nat_lt (length xs) SUBSCRIPTION_LIMIT) found in
    let put : put_row place_of SUBSCRIPTION_LIMIT x xs ≡ insert_row place_of x xs = rw room refl in
    let stays : without_filter y.filter (put_row place_of SUBSCRIPTION_LIMIT x xs) ≡ put_row place_of SUBSCRIPTION_LIMIT x xs =
    ap (without_filter y.filter) put ∙ (taken_stays x y xs table.ascending differ found other ∙ sym put) in
    ap (λ ys. put_subscription y (put_row place_of SUBSCRIPTION_LIMIT x ys)) same
    ∙ (ap (put_row place_of SUBSCRIPTION_LIMIT y) stays
    ∙ put_over place_of SUBSCRIPTION_LIMIT x y xs table.ascending found)
  where
    found_by : (xs : List Subscription) → find (is_to x.filter) xs ≡ None → row_at place_of x.place xs ≡ Some y → bytes_eq y.filter x.filter ≡ true → ⊥
    found_by [] none found is = absurd cc
    found_by (z ∷ zs) none found is = elim (cases_Bool (bytes_eq z.filter x.filter)) [
      | inl here ↦ let no : Some z ≡ None = rw here at none in absurd cc
      | inr not_here ↦ elim (cases_Bool (nat_eq z.place x.place)) [
        | inl its ↦
            let first : Some z ≡ Some y = rw its at found in
            let same : z ≡ y = cc in
            let yes : bytes_eq z.filter x.filter ≡ true = subst (λ (w : Subscription). bytes_eq w.filter x.filter ≡ true) (sym same) is in
            absurd cc
        | inr not_its ↦ found_by zs (rw not_here at none) (rw not_its at found) is
      ]
    ]

    not_found : bytes_eq y.filter x.filter ≡ true → ⊥
    not_found is = found_by xs none found is

-- one that was removed is put back
pub removed_again : (f : List ℕ) (y : Subscription) (xs : List Subscription) → IsTable place_of SUBSCRIPTION_LIMIT xs → AllDiffer (map filter_of xs) → find (is_to f) xs ≡ Some y
    → put_subscription y (without_filter f xs) ≡ xs
removed_again f y xs table differ found =
    let text : y.filter ≡ f = found_filter f y xs found in
    let less : without_filter f xs ≡ remove_row place_of y.place xs = found_without f y xs table.ascending differ found in
    ap (λ (t : List ℕ). put_row place_of SUBSCRIPTION_LIMIT y (without_filter t (without_filter f xs))) text
    ∙ (ap (put_row place_of SUBSCRIPTION_LIMIT y) (without_twice f xs ∙ less)
    ∙ removed_back place_of SUBSCRIPTION_LIMIT y.place y xs table.ascending (found_row f y xs table.ascending found) table.within)

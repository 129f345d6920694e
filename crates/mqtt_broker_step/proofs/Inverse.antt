-- What takes an edit of a list of rows back.
use Rattle.std.proofs.Common.{◌≡◌, ℕ, ◌<◌, ◌≤◌, Bool, true, false, cond, ◌||◌, List, [], ◌∷◌, length, map, nat_eq, nat_lt, refl, ap, sym, subst, ◌∙◌, arith, inl, inr}
use Rattle.std.specs.Prelude.{Option, Some, None, is_some}
use Rattle.std.proofs.lemmas.Bool.{eqb-true, eq-eqb, cases_Bool, lt-ltb}
use Rattle.mqtt_routes.specs.routing.Intended.{greatest}
use Rattle.mqtt_records.specs.lists.Order.{IsAscending, row_at, has_row, insert_row, put_row, remove_row, change_row, last_row}
use Rattle.mqtt_records.proofs.lists_lemmas.OrderLemmas.{apart, change-none, remove-length, remove-none, remove-ascending, insert-ascending}
use Rattle.mqtt_records.proofs.lists_lemmas.LookUps.{row_at-insert_row, row_at-remove_row, same_rows}

module _ {X : Type 0} (key : X → ℕ) where
  -- a row put where its key was not, and removed
  insert_back : (row : X) (xs : List X) → IsAscending key xs → row_at key (key row) xs ≡ None → remove_row key (key row) (insert_row key row xs) ≡ xs
  insert_back row xs up none =
      same_rows key (remove_row key (key row) (insert_row key row xs)) xs
      (remove-ascending key (key row) (insert_row key row xs) (insert-ascending key row xs up)) up
      (λ k. row_at-remove_row key k (key row) (insert_row key row xs)
      ∙ elim (cases_Bool (nat_eq (key row) k)) [
        | inl asked ↦ let is : key row ≡ k = eqb-true (key row) k asked in rw asked (sym none ∙ ap (λ n. row_at key n xs) is)
        | inr other ↦ rw other (row_at-insert_row key k row xs ∙ ap (λ (b : Bool). cond b (Some row) (row_at key k xs)) other)
      ])

  -- a row with a key of its own is put, and removed
  pub put_back : (limit : ℕ) (row : X) (xs : List X) → IsAscending key xs → row_at key (key row) xs ≡ None → remove_row key (key row) (put_row key limit row xs) ≡ xs
  put_back limit row xs up none = elim (cases_Bool (has_row key (key row) xs || nat_lt (length xs) limit)) [
    | inl room ↦ rw room (insert_back row xs up none)
    | inr full ↦ rw full (remove-none key (key row) xs none)
  ]

  -- a row changed, and changed back
  pub change_back : (k : ℕ) (f g : X → X) (x : X) (xs : List X) → ((y : X) → key (f y) ≡ key y) → row_at key k xs ≡ Some x → g (f x) ≡ x → change_row key k g (change_row key k f xs) ≡ xs
  change_back k f g x [] keeps found back = refl
  change_back k f g x (y ∷ ys) keeps found back = elim (cases_Bool (nat_eq (key y) k)) [
    | inl here ↦
        let first : Some y ≡ Some x = ap (λ (b : Bool). cond b (Some y) (row_at key k ys)) (sym here) ∙ found in
        let is : y ≡ x = cc in
        let still : nat_eq (key (f y)) k ≡ true = ap (λ n. nat_eq n k) (keeps y) ∙ here in
        rw (here, still) (ap (λ (z : X). z ∷ ys) (subst (λ (z : X). g (f z) ≡ z) (sym is) back))
    | inr later ↦
        let there : row_at key k ys ≡ Some x = ap (λ (b : Bool). cond b (Some y) (row_at key k ys)) (sym later) ∙ found in
        rw (later, later) (ap (λ (zs : List X). y ∷ zs) (change_back k f g x ys keeps there back))
  ]

  -- a row changed in one of two ways that are one for it
  pub change_alike : (k : ℕ) (f g : X → X) (x : X) (xs : List X) → row_at key k xs ≡ Some x → f x ≡ g x → change_row key k f xs ≡ change_row key k g xs
  change_alike k f g x [] found same = refl
  change_alike k f g x (y ∷ ys) found same = elim (cases_Bool (nat_eq (key y) k)) [
    | inl here ↦
        let first : Some y ≡ Some x = ap (λ (b : Bool). cond b (Some y) (row_at key k ys)) (sym here) ∙ found in
        let is : y ≡ x = cc in
        rw here (ap (λ (z : X). z ∷ ys) (subst (λ (z : X). f z ≡ g z) (sym is) same))
    | inr later ↦
        let there : row_at key k ys ≡ Some x = ap (λ (b : Bool). cond b (Some y) (row_at key k ys)) (sym later) ∙ found in
        rw later (ap (λ (zs : List X). y ∷ zs) (change_alike k f g x ys there same))
  ]

  -- a row changed into itself
  pub change_same : (k : ℕ) (f : X → X) (x : X) (xs : List X) → row_at key k xs ≡ Some x → f x ≡ x → change_row key k f xs ≡ xs
  change_same k f x [] found same = refl
  change_same k f x (y ∷ ys) found same = elim (cases_Bool (nat_eq (key y) k)) [
    | inl here ↦
        let first : Some y ≡ Some x = ap (λ (b : Bool). cond b (Some y) (row_at key k ys)) (sym here) ∙ found in
        let is : y ≡ x = cc in
        rw here (ap (λ (z : X). z ∷ ys) (subst (λ (z : X). f z ≡ z) (sym is) same))
    | inr later ↦
        let there : row_at key k ys ≡ Some x = ap (λ (b : Bool). cond b (Some y) (row_at key k ys)) (sym later) ∙ found in
        rw later (ap (λ (zs : List X). y ∷ zs) (change_same k f x ys there same))
  ]

  -- a key above the greatest is none's
  pub none_above : (n : ℕ) (xs : List X) → greatest (map key xs) < n → row_at key n xs ≡ None
  none_above n [] low = refl
  none_above n (y ∷ ys) low = rw (apart (key y) n (λ e. omega (arith, e, low))) (none_above n ys (omega (arith, low)))

  -- the last row has the greatest key
  pub last_greatest : (xs : List X) (x : X) → IsAscending key xs → last_row key xs ≡ Some x → greatest (map key xs) ≡ key x
  last_greatest [] x up last = absurd cc
  last_greatest (y ∷ []) x up last = let is : y ≡ x = cc in let same = ap key is in omega (arith, same)
  last_greatest (y ∷ z ∷ zs) x up last =
      let rest = last_greatest (z ∷ zs) x up.1 last in
      let less = up.0.0 in
      omega (arith, rest, less)

  -- if there is no last row there is none
  pub last_none : (xs : List X) → last_row key xs ≡ None → xs ≡ []
  last_none [] e = refl
  last_none (y ∷ []) e = absurd cc
  last_none (y ∷ z ∷ zs) e = absurd (some_last z zs e)
    where
      some_last : (z : X) (zs : List X) → last_row key (z ∷ zs) ≡ None → ⊥
      some_last z [] e = absurd cc
      some_last z (x ∷ xs) e = some_last x xs e

  -- the row that is found by a key has that key
  pub row_key : (k : ℕ) (xs : List X) (x : X) → row_at key k xs ≡ Some x → key x ≡ k
  row_key k [] x found = absurd cc
  row_key k (y ∷ ys) x found = elim (cases_Bool (nat_eq (key y) k)) [
    | inl here ↦
        let first : Some y ≡ Some x = ap (λ (b : Bool). cond b (Some y) (row_at key k ys)) (sym here) ∙ found in
        let is : y ≡ x = cc in
        ap key (sym is) ∙ eqb-true (key y) k here
    | inr later ↦ row_key k ys x (ap (λ (b : Bool). cond b (Some y) (row_at key k ys)) (sym later) ∙ found)
  ]

  remove_less : (k : ℕ) (xs : List X) (x : X) → row_at key k xs ≡ Some x → length (remove_row key k xs) < length xs
  remove_less k [] x found = absurd cc
  remove_less k (y ∷ ys) x found = elim (cases_Bool (nat_eq (key y) k)) [
    | inl here ↦ let rest = remove-length key k ys in rw here (omega (arith, rest))
    | inr later ↦
        let there : row_at key k ys ≡ Some x = ap (λ (b : Bool). cond b (Some y) (row_at key k ys)) (sym later) ∙ found in
        let rest = remove_less k ys x there in
        rw later (omega (arith, rest))
  ]

  both_keys : (k j : ℕ) (x : X) (o : Option X) → (nat_eq k j ≡ true → o ≡ Some x) → cond (nat_eq k j) (Some x) (cond (nat_eq k j) None o) ≡ o
  both_keys k j x o there = elim (cases_Bool (nat_eq k j)) [
    | inl same ↦ rw same (sym (there same))
    | inr other ↦ rw other refl
  ]

  -- a row removed, and put back
  pub removed_back : (limit k : ℕ) (x : X) (xs : List X) → IsAscending key xs → row_at key k xs ≡ Some x → length xs ≤ limit → put_row key limit x (remove_row key k xs) ≡ xs
  removed_back limit k x xs up found few =
      let is : key x ≡ k = row_key k xs x found in
      let less = remove_less k xs x found in
      let room : nat_lt (length (remove_row key k xs)) limit ≡ true = lt-ltb (length (remove_row key k xs)) limit (omega (arith, less, few)) in
      let takes : (has_row key (key x) (remove_row key k xs) || nat_lt (length (remove_row key k xs)) limit) ≡ true =
      ap (λ b. has_row key (key x) (remove_row key k xs) || b) room ∙ or_true (has_row key (key x) (remove_row key k xs)) in
      rw takes (same_rows key (insert_row key x (remove_row key k xs)) xs
      (insert-ascending key x (remove_row key k xs) (remove-ascending key k xs up)) up
      (λ j. row_at-insert_row key j x (remove_row key k xs)
      ∙ (ap (λ o. cond (nat_eq (key x) j) (Some x) o) (row_at-remove_row key j k xs)
      ∙ (ap (λ n. cond (nat_eq n j) (Some x) (cond (nat_eq k j) None (row_at key j xs))) is
      ∙ both_keys k j x (row_at key j xs) (λ same. ap (λ n. row_at key n xs) (sym (eqb-true k j same)) ∙ found)))))
    where
      or_true : (b : Bool) → (b || true) ≡ true
      or_true true = refl
      or_true false = refl

  -- a row changed, if it is there, and changed back
  pub edit_back : (k : ℕ) (f g : X → X) (xs : List X) → ((y : X) → key (f y) ≡ key y) → ((x : X) → row_at key k xs ≡ Some x → g (f x) ≡ x) → change_row key k g (change_row key k f xs) ≡ xs
  edit_back k f g xs keeps back = by (row_at key k xs) refl
    where
      by : (o : Option X) → row_at key k xs ≡ o → change_row key k g (change_row key k f xs) ≡ xs
      by None none = ap (change_row key k g) (change-none key k f xs none) ∙ change-none key k g xs none
      by (Some x) found = change_back k f g x xs keeps found (back x found)

  -- a row put in the place of its equal
  pub put_same : (limit : ℕ) (x : X) (xs : List X) → IsAscending key xs → row_at key (key x) xs ≡ Some x → put_row key limit x xs ≡ xs
  put_same limit x xs up found =
      let there : has_row key (key x) xs ≡ true = ap is_some found in
      let takes : (has_row key (key x) xs || nat_lt (length xs) limit) ≡ true = ap (λ b. b || nat_lt (length xs) limit) there in
      rw takes (same_rows key (insert_row key x xs) xs (insert-ascending key x xs up) up
      (λ j. row_at-insert_row key j x xs ∙ same_at j))
    where
      same_at : (j : ℕ) → cond (nat_eq (key x) j) (Some x) (row_at key j xs) ≡ row_at key j xs
      same_at j = elim (cases_Bool (nat_eq (key x) j)) [
        | inl here ↦ rw here (sym found ∙ ap (λ n. row_at key n xs) (eqb-true (key x) j here))
        | inr other ↦ rw other refl
      ]

  has_inserted : (row : X) (k : ℕ) (xs : List X) → key row ≡ k → has_row key k (insert_row key row xs) ≡ true
  has_inserted row k xs same =
      let asked : nat_eq (key row) k ≡ true = eq-eqb (key row) k same in
      ap is_some (row_at-insert_row key k row xs ∙ ap (λ (b : Bool). cond b (Some row) (row_at key k xs)) asked)

  -- a row put in the place of another, and that one put back
  pub put_over : (limit : ℕ) (row old : X) (xs : List X) → IsAscending key xs → row_at key (key row) xs ≡ Some old → put_row key limit old (put_row key limit row xs) ≡ xs
  put_over limit row old xs up found =
      let same : key old ≡ key row = row_key (key row) xs old found in
      let takes : (has_row key (key row) xs || nat_lt (length xs) limit) ≡ true = ap (λ o. is_some o || nat_lt (length xs) limit) found in
      let takes_again : (has_row key (key old) (insert_row key row xs) || nat_lt (length (insert_row key row xs)) limit) ≡ true =
      ap (λ b. b || nat_lt (length (insert_row key row xs)) limit) (has_inserted row (key old) xs (sym same)) in
      rw (takes, takes_again) (same_rows key (insert_row key old (insert_row key row xs)) xs
      (insert-ascending key old (insert_row key row xs) (insert-ascending key row xs up)) up
      (λ j. row_at-insert_row key j old (insert_row key row xs)
      ∙ (ap (λ o. cond (nat_eq (key old) j) (Some old) o) (row_at-insert_row key j row xs) ∙ at j same)))
    where
      at : (j : ℕ) → key old ≡ key row → cond (nat_eq (key old) j) (Some old) (cond (nat_eq (key row) j) (Some row) (row_at key j xs)) ≡ row_at key j xs
      at j same = elim (cases_Bool (nat_eq (key row) j)) [
        | inl here ↦
            let again : nat_eq (key old) j ≡ true = ap (λ n. nat_eq n j) same ∙ here in
            rw again (sym found ∙ ap (λ n. row_at key n xs) (eqb-true (key row) j here))
        | inr other ↦
            let again : nat_eq (key old) j ≡ false = ap (λ n. nat_eq n j) same ∙ other in
            rw (again, other) refl
      ]

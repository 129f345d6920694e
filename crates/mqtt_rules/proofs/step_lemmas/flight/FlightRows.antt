-- Rows by their keys: what a change of one leaves, and what holds of all.
use Rattle.std.proofs.Common.{◌≡◌, ℕ, ◌<◌, true, false, cond, ◌||◌, List, [], ◌∷◌, length, nat_eq, nat_lt, refl, sym, ap, subst, ◌∙◌, arith, inl, inr}
use Rattle.std.specs.Prelude.{Option, Some}
use Rattle.std.specs.List.{AllByRecursion}
use Rattle.std.proofs.lemmas.Bool.{eqb-true, cases_Bool}
use Rattle.mqtt_records.specs.lists.Order.{IsAbove, IsAscending, row_at, has_row, insert_row, put_row, remove_row, change_row}
use Rattle.mqtt_records.proofs.lists_lemmas.OrderLemmas.{apart}
use Rattle.mqtt_records.proofs.lists_lemmas.LookUps.{row_at-here}

-- what holds of each item, and brings something else, brings it for each
pub all_more : {X : Type 0} (P Q : X → Type 0) (xs : List X) → ((x : X) → P x → Q x) → AllByRecursion P xs → AllByRecursion Q xs
all_more P Q [] f h = tt
all_more P Q (x ∷ xs) f h = (f x h.0, all_more P Q xs f h.1)

module _ {X : Type 0} (key : X → ℕ) where
  -- the row that is found by a key has that key
  pub found_key : (k : ℕ) (x : X) (xs : List X) → row_at key k xs ≡ Some x → key x ≡ k
  found_key k x [] h = absurd cc
  found_key k x (y ∷ ys) h = elim (cases_Bool (nat_eq (key y) k)) [
    | inl same ↦ let it : Some y ≡ Some x = rw same at h in let is : y ≡ x = cc in ap key (sym is) ∙ eqb-true (key y) k same
    | inr other ↦ found_key k x ys (rw other at h)
  ]

  -- if all rows are above a number, so is the key of one that is found
  pub above_found : (n k : ℕ) (x : X) (xs : List X) → IsAbove key n xs → row_at key k xs ≡ Some x → n < k
  above_found n k x [] up h = absurd cc
  above_found n k x (y ∷ ys) up h = elim (cases_Bool (nat_eq (key y) k)) [
    | inl same ↦ let is = eqb-true (key y) k same in let more = up.0 in omega (arith, is, more)
    | inr other ↦ above_found n k x ys up.1 (rw other at h)
  ]

  -- what is found further on is found behind a lower row
  pub found_behind : (k : ℕ) (x y : X) (xs : List X) → IsAbove key (key y) xs → row_at key k xs ≡ Some x → row_at key k (y ∷ xs) ≡ Some x
  found_behind k x y xs up h =
      let less = above_found (key y) k x xs up h in
      rw (apart (key y) k (λ same. omega (arith, same, less))) h

  -- in a list in order each row is found by its own key
  pub all_found : (xs : List X) → IsAscending key xs → AllByRecursion (λ x. row_at key (key x) xs ≡ Some x) xs
  all_found [] up = tt
  all_found (y ∷ ys) up = (
    row_at-here key y ys,
    all_more (λ x. row_at key (key x) ys ≡ Some x) (λ x. row_at key (key x) (y ∷ ys) ≡ Some x) ys (λ x h. found_behind (key x) x y ys up.0 h) (all_found ys up.1),
  )

  -- a changed row leaves what other keys find
  pub change_row-other : (k j : ℕ) (f : X → X) (xs : List X) → ((x : X) → key (f x) ≡ key x) → nat_eq j k ≡ false → row_at key k (change_row key j f xs) ≡ row_at key k xs
  change_row-other k j f [] keeps differ = refl
  change_row-other k j f (y ∷ ys) keeps differ = elim (cases_Bool (nat_eq (key y) j)) [
    | inl here ↦
        let is : key y ≡ j = eqb-true (key y) j here in
        let not_y : nat_eq (key y) k ≡ false = ap (λ n. nat_eq n k) is ∙ differ in
        let not_new : nat_eq (key (f y)) k ≡ false = ap (λ n. nat_eq n k) (keeps y) ∙ not_y in
        rw (here, not_new, not_y) refl
    | inr further ↦
        rw further (ap (λ (o : Option X). cond (nat_eq (key y) k) (Some y) o) (change_row-other k j f ys keeps differ))
  ]

  -- a changed row is found changed by its key
  pub change_row-here : (k : ℕ) (f : X → X) (x : X) (xs : List X) → ((y : X) → key (f y) ≡ key y) → row_at key k xs ≡ Some x → row_at key k (change_row key k f xs) ≡ Some (f x)
  change_row-here k f x [] keeps h = absurd cc
  change_row-here k f x (y ∷ ys) keeps h = elim (cases_Bool (nat_eq (key y) k)) [
    | inl here ↦
        let it : Some y ≡ Some x = rw here at h in
        let is : y ≡ x = cc in
        let new : nat_eq (key (f y)) k ≡ true = ap (λ n. nat_eq n k) (keeps y) ∙ here in
        rw (here, new) (ap (λ z. Some (f z)) is)
    | inr further ↦ rw (further, further) (change_row-here k f x ys keeps (rw further at h))
  ]

  module _ (P : X → Type 0) where
    -- what holds of each row holds of the one that is found
    pub all_at : (k : ℕ) (x : X) (xs : List X) → AllByRecursion P xs → row_at key k xs ≡ Some x → P x
    all_at k x [] h there = absurd cc
    all_at k x (y ∷ ys) h there = elim (cases_Bool (nat_eq (key y) k)) [
      | inl here ↦ let it : Some y ≡ Some x = rw here at there in let is : y ≡ x = cc in subst P is h.0
      | inr further ↦ all_at k x ys h.1 (rw further at there)
    ]

    -- what holds of each row holds of each after one is removed
    pub all_removed : (k : ℕ) (xs : List X) → AllByRecursion P xs → AllByRecursion P (remove_row key k xs)
    all_removed k [] h = tt
    all_removed k (y ∷ ys) h = elim (cases_Bool (nat_eq (key y) k)) [
      | inl here ↦ rw here (all_removed k ys h.1)
      | inr further ↦ rw further (h.0, all_removed k ys h.1)
    ]

    -- what holds of each row holds of each after one changes, if the change keeps it
    pub all_changed : (k : ℕ) (f : X → X) (xs : List X) → ((x : X) → P x → P (f x)) → AllByRecursion P xs → AllByRecursion P (change_row key k f xs)
    all_changed k f [] g h = tt
    all_changed k f (y ∷ ys) g h = elim (cases_Bool (nat_eq (key y) k)) [
      | inl here ↦ rw here (g y h.0, h.1)
      | inr further ↦ rw further (h.0, all_changed k f ys g h.1)
    ]

    -- what holds of each row, and of one as it is changed, holds of each after that
    pub all_changed_at : (k : ℕ) (f : X → X) (x : X) (xs : List X) → row_at key k xs ≡ Some x → P (f x) → AllByRecursion P xs → AllByRecursion P (change_row key k f xs)
    all_changed_at k f x [] there new h = tt
    all_changed_at k f x (y ∷ ys) there new h = elim (cases_Bool (nat_eq (key y) k)) [
      | inl here ↦ let it : Some y ≡ Some x = rw here at there in let is : x ≡ y = cc in rw here (subst (λ z. P (f z)) is new, h.1)
      | inr further ↦ rw further (h.0, all_changed_at k f x ys (rw further at there) new h.1)
    ]

    -- what holds of each row, and of one more, holds of each after that one is put
    pub all_inserted : (row : X) (xs : List X) → P row → AllByRecursion P xs → AllByRecursion P (insert_row key row xs)
    all_inserted row [] new h = (new, tt)
    all_inserted row (y ∷ ys) new h = elim (cases_Bool (nat_lt (key row) (key y))) [
      | inl before ↦ rw before (new, h)
      | inr behind ↦ elim (cases_Bool (nat_eq (key row) (key y))) [
        | inl same ↦ rw (behind, same) (new, h.1)
        | inr other ↦ rw (behind, other) (h.0, all_inserted row ys new h.1)
      ]
    ]

    -- the same in a list with a limit
    pub all_put : (limit : ℕ) (row : X) (xs : List X) → P row → AllByRecursion P xs → AllByRecursion P (put_row key limit row xs)
    all_put limit row xs new h = elim (cases_Bool (has_row key (key row) xs || nat_lt (length xs) limit)) [
      | inl room ↦ rw room (all_inserted row xs new h)
      | inr full ↦ rw full h
    ]

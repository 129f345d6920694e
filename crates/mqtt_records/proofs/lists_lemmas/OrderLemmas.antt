-- Rows in the order of their keys: where a search ends, and what an edit there makes.
use Rattle.std.proofs.Common.{◌≡◌, ℕ, ◌-◌, zero, suc, ◌<◌, ◌≤◌, Bool, true, false, not, ◌||◌, cond, List, [], ◌∷◌, length, filter, map, take, get_or, nat_eq, nat_lt, ltb, insert, remove, refl, sym, ap, subst, ◌∙◌, arith, inl, inr, ◌⊎◌}
use Rattle.std.specs.Prelude.{Option, Some, None, Ok, Err, is_some, slice_get, slice_set}
use Rattle.std.specs.List.{AllWithin}
use Rattle.std.specs.List.Sorted.{IsNonDecreasingBy}
use Rattle.std.proofs.lemmas.Bool.{eqb-true, cases_Bool, cases_order, ltb-true, ltb-false, lt-ltb, le-ltb}
use Rattle.std.proofs.lemmas.Cmp.{nat_eq_equiv}
use Rattle.std.proofs.lemmas.Option.{slice_get_read, get_or_from_slice_get}
use Rattle.mqtt_records.specs.lists.Order.{last_row, IsAbove, IsAscending, row_at, has_row, insert_row, put_row, remove_row, change_row, front_len, IsFound}

-- two numbers that differ
pub apart : (m n : ℕ) → (m ≡ n → ⊥) → nat_eq m n ≡ false
apart m n differ = elim (cases_Bool (nat_eq m n)) [ inl same ↦ absurd (differ (eqb-true m n same)) | inr other ↦ other ]

module _ {X : Type 0} (key : X → ℕ) where
  -- a later row has a higher key
  above_get : (n : ℕ) (xs : List X) (j : ℕ) (d : X) → IsAbove key n xs → j < length xs → n < key (get_or xs j d)
  above_get n [] j d up lt = absurd (omega (arith, lt))
  above_get n (x ∷ xs) zero d up lt = up.0
  above_get n (x ∷ xs) (suc j) d up lt = above_get n xs j d up.1 (omega (arith, lt))

  -- keys that ascend don't fall
  pub ascending_rises : (xs : List X) → IsAscending key xs → IsNonDecreasingBy key xs
  ascending_rises [] up i j d le lt = absurd (omega (arith, lt))
  ascending_rises (x ∷ xs) up zero zero d le lt = omega arith
  ascending_rises (x ∷ xs) up zero (suc j) d le lt =
      let more = above_get (key x) xs j d up.0 (omega (arith, lt)) in
      omega (arith, more)
  ascending_rises (x ∷ xs) up (suc i) zero d le lt = absurd (omega (arith, le))
  ascending_rises (x ∷ xs) up (suc i) (suc j) d le lt = ascending_rises xs up.1 i j d (omega (arith, le)) (omega (arith, lt))

  -- the rows before place i have lower keys, and those from there on don't
  pub front_len_is : (k : ℕ) (xs : List X) (i : ℕ) → i ≤ length xs → AllWithin (λ x. ltb (key x) k ≡ true) xs 0 i → AllWithin (λ x. ltb (key x) k ≡ false) xs i (length xs) → i ≡ front_len key k xs
  front_len_is k [] i le low high = omega (arith, le)
  front_len_is k (x ∷ xs) zero le low high =
      let here : ltb (key x) k ≡ false = high 0 x (omega arith) (omega arith) in
      rw here refl
  front_len_is k (x ∷ xs) (suc i) le low high =
      let here : ltb (key x) k ≡ true = low 0 x (omega arith) (omega arith) in
      rw here (ap suc (front_len_is k xs i (omega (arith, le)) (λ j d a b. low (suc j) d (omega arith) (omega (arith, b))) (λ j d a b. high (suc j) d (omega (arith, a)) (omega (arith, b)))))

  above_take : (n i : ℕ) (xs : List X) → IsAbove key n xs → IsAbove key n (take i xs)
  above_take n zero xs up = tt
  above_take n (suc i) [] up = tt
  above_take n (suc i) (x ∷ xs) up = (up.0, above_take n i xs up.1)

  -- rows in front are in order as all are
  pub ascending_take : (i : ℕ) (xs : List X) → IsAscending key xs → IsAscending key (take i xs)
  ascending_take zero xs up = tt
  ascending_take (suc i) [] up = tt
  ascending_take (suc i) (x ∷ xs) up = (above_take (key x) i xs up.0, ascending_take i xs up.1)

  -- a key that isn't above that of a row has its place before this row
  pub front_take : (k i : ℕ) (xs : List X) (x : X) → slice_get xs i ≡ Some x → k ≤ key x → front_len key k (take i xs) ≡ front_len key k xs
  front_take k i [] x there le = absurd cc
  front_take k zero (y ∷ ys) x there le =
      let it : y ≡ x = cc in
      let above : k ≤ key y = subst (λ z. k ≤ key z) (sym it) le in
      rw (le-ltb (key y) k above) refl
  front_take k (suc i) (y ∷ ys) x there le = ap (λ n. cond (nat_lt (key y) k) (suc n) zero) (front_take k i ys x there le)

  -- ---- what stands where a search ends

  -- what is above a key is above a lower one
  pub above_less : (k n : ℕ) (xs : List X) → k < n → IsAbove key n xs → IsAbove key k xs
  above_less k n [] less up = tt
  above_less k n (x ∷ xs) less up = let more = up.0 in (omega (arith, less, more), above_less k n xs less up.1)

  -- no row above a key is found by it
  pub above_none : (k : ℕ) (xs : List X) → IsAbove key k xs → row_at key k xs ≡ None
  above_none k [] up = refl
  above_none k (x ∷ xs) up =
      let more = up.0 in
      rw (apart (key x) k (λ same. omega (arith, same, more))) (above_none k xs up.1)

  -- what stands at the front, by the order of its key and k
  pub front_here : (k : ℕ) (xs : List X) (x : X) → slice_get xs (front_len key k xs) ≡ Some x → key x ≡ k → row_at key k xs ≡ Some x
  front_here k [] x there same = absurd cc
  front_here k (y ∷ ys) x there same = elim (cases_Bool (nat_lt (key y) k)) [
    | inl low ↦
        let less : key y < k = ltb-true (key y) k low in
        let beyond : slice_get ys (front_len key k ys) ≡ Some x = rw low at there in
        rw (apart (key y) k (λ e. omega (arith, e, less))) (front_here k ys x beyond same)
    | inr high ↦
        let first : Some y ≡ Some x = rw high at there in
        let it : y ≡ x = cc in
        let same_key : key y ≡ k = ap key it ∙ same in
        rw (ap (λ n. nat_eq n k) same_key ∙ nat_eq_equiv.refl k) first
  ]

  -- if the search ends at another key, no row has this one
  pub front_none : (k : ℕ) (xs : List X) → IsAscending key xs → ((x : X) → slice_get xs (front_len key k xs) ≡ Some x → key x ≡ k → ⊥) → row_at key k xs ≡ None
  front_none k [] up h = refl
  front_none k (y ∷ ys) up h = elim (cases_Bool (nat_lt (key y) k)) [
    | inl low ↦
        let less : key y < k = ltb-true (key y) k low in
        rw (apart (key y) k (λ e. omega (arith, e, less)))
        (front_none k ys up.1 (λ x there same. h x (rw low there) same))
    | inr high ↦
        let le : k ≤ key y = ltb-false (key y) k high in
        let differ : key y ≡ k → ⊥ = λ same. h y (rw high refl) same in
        elim (cases_order k (key y)) [
          | inl same ↦ absurd (differ (sym same))
          | inr other ↦ elim other [
            | inl less ↦ rw (apart (key y) k differ) (above_none k ys (above_less k (key y) ys less up.0))
            | inr more ↦ absurd (omega (arith, le, more))
          ]
        ]
  ]

  -- ---- what an edit at the found place makes

  none_cons : (k : ℕ) (y : X) (ys : List X) → row_at key k (y ∷ ys) ≡ None → (nat_eq (key y) k ≡ false) × (row_at key k ys ≡ None)
  none_cons k y ys none = elim (cases_Bool (nat_eq (key y) k)) [
    | inl same ↦ let found : Some y ≡ None = rw same at none in absurd cc
    | inr other ↦ (other, rw other at none)
  ]

  none_apart : (k : ℕ) (y : X) (ys : List X) → row_at key k (y ∷ ys) ≡ None → key y ≡ k → ⊥
  none_apart k y ys none same =
      let is : nat_eq (key y) k ≡ true = ap (λ n. nat_eq n k) same ∙ nat_eq_equiv.refl k in
      let other = (none_cons k y ys none).0 in
      cc

  -- a row with a new key goes in where the search ends
  pub insert-none : (row : X) (xs : List X) → row_at key (key row) xs ≡ None → insert_row key row xs ≡ insert xs (front_len key (key row) xs) row
  insert-none row [] none = refl
  insert-none row (y ∷ ys) none = elim (cases_Bool (nat_lt (key y) (key row))) [
    | inl low ↦
        let less : key y < key row = ltb-true (key y) (key row) low in
        let not_before : nat_lt (key row) (key y) ≡ false = le-ltb (key row) (key y) (omega (arith, less)) in
        let not_same : nat_eq (key row) (key y) ≡ false = apart (key row) (key y) (λ e. omega (arith, e, less)) in
        rw (low, not_before, not_same) (ap (λ (zs : List X). y ∷ zs) (insert-none row ys (none_cons (key row) y ys none).1))
    | inr high ↦
        let le : key row ≤ key y = ltb-false (key y) (key row) high in
        elim (cases_order (key row) (key y)) [
          | inl same ↦ absurd (none_apart (key row) y ys none (sym same))
          | inr other ↦ elim other [
            | inl less ↦ rw (high, lt-ltb (key row) (key y) less) refl
            | inr more ↦ absurd (omega (arith, le, more))
          ]
        ]
  ]

  -- a found row stands at the front, or further on if the front has a lower key
  found_cons : (k : ℕ) (y : X) (ys : List X) → IsAscending key (y ∷ ys) → has_row key k (y ∷ ys) ≡ true
      → ((nat_lt (key y) k ≡ true) × (nat_eq (key y) k ≡ false) × (has_row key k ys ≡ true)) ⊎ ((nat_lt (key y) k ≡ false) × (key y ≡ k))
  found_cons k y ys up found = elim (cases_order (key y) k) [
    | inl same ↦ inr (le-ltb (key y) k (omega (arith, same)), same)
    | inr other ↦ elim other [
      | inl less ↦
          let differ : nat_eq (key y) k ≡ false = apart (key y) k (λ e. omega (arith, e, less)) in
          inl (lt-ltb (key y) k less, differ, rw differ at found)
      | inr more ↦
          let differ : nat_eq (key y) k ≡ false = apart (key y) k (λ e. omega (arith, e, more)) in
          let none : row_at key k ys ≡ None = above_none k ys (above_less k (key y) ys more up.0) in
          let nothing : false ≡ true = rw (differ, none) at found in
          absurd cc
    ]
  ]

  -- a row with a key that stands goes in the place where the search ends
  pub insert-found : (row : X) (xs : List X) → IsAscending key xs → has_row key (key row) xs ≡ true → insert_row key row xs ≡ slice_set xs (front_len key (key row) xs) row
  insert-found row [] up found = absurd cc
  insert-found row (y ∷ ys) up found = elim (found_cons (key row) y ys up found) [
    | inl more ↦
        let less : key y < key row = ltb-true (key y) (key row) more.0 in
        let not_before : nat_lt (key row) (key y) ≡ false = le-ltb (key row) (key y) (omega (arith, less)) in
        let not_same : nat_eq (key row) (key y) ≡ false = apart (key row) (key y) (λ e. omega (arith, e, less)) in
        rw (more.0, not_before, not_same) (ap (λ (zs : List X). y ∷ zs) (insert-found row ys up.1 more.2))
    | inr here ↦
        let same = here.1 in
        let not_before : nat_lt (key row) (key y) ≡ false = le-ltb (key row) (key y) (omega (arith, same)) in
        let is : nat_eq (key row) (key y) ≡ true = ap (λ n. nat_eq (key row) n) same ∙ nat_eq_equiv.refl (key row) in
        rw (here.0, not_before, is) refl
  ]

  remove-above : (k : ℕ) (xs : List X) → IsAbove key k xs → remove_row key k xs ≡ xs
  remove-above k [] up = refl
  remove-above k (y ∷ ys) up =
      let more = up.0 in
      rw (apart (key y) k (λ e. omega (arith, e, more))) (ap (λ (zs : List X). y ∷ zs) (remove-above k ys up.1))

  -- if no row has a key, none goes
  pub remove-none : (k : ℕ) (xs : List X) → row_at key k xs ≡ None → remove_row key k xs ≡ xs
  remove-none k [] none = refl
  remove-none k (y ∷ ys) none =
      let parts = none_cons k y ys none in
      rw parts.0 (ap (λ (zs : List X). y ∷ zs) (remove-none k ys parts.1))

  -- the row with a key goes from where the search ends
  pub remove-found : (k : ℕ) (xs : List X) → IsAscending key xs → has_row key k xs ≡ true → remove_row key k xs ≡ remove xs (front_len key k xs)
  remove-found k [] up found = absurd cc
  remove-found k (y ∷ ys) up found = elim (found_cons k y ys up found) [
    | inl more ↦ rw (more.0, more.1) (ap (λ (zs : List X). y ∷ zs) (remove-found k ys up.1 more.2))
    | inr here ↦
        let same = here.1 in
        let is : nat_eq (key y) k ≡ true = ap (λ n. nat_eq n k) same ∙ nat_eq_equiv.refl k in
        rw (here.0, is) (remove-above k ys (subst (λ (n : ℕ). IsAbove key n ys) same up.0))
  ]

  -- if no row has a key, none changes
  pub change-none : (k : ℕ) (f : X → X) (xs : List X) → row_at key k xs ≡ None → change_row key k f xs ≡ xs
  change-none k f [] none = refl
  change-none k f (y ∷ ys) none =
      let parts = none_cons k y ys none in
      rw parts.0 (ap (λ (zs : List X). y ∷ zs) (change-none k f ys parts.1))

  -- the row with a key changes where the search ends
  pub change-found : (k : ℕ) (f : X → X) (xs : List X) (d : X) → IsAscending key xs → has_row key k xs ≡ true → change_row key k f xs ≡ slice_set xs (front_len key k xs) (f (get_or xs (front_len key k xs) d))
  change-found k f [] d up found = absurd cc
  change-found k f (y ∷ ys) d up found = elim (found_cons k y ys up found) [
    | inl more ↦ rw (more.0, more.1) (ap (λ (zs : List X). y ∷ zs) (change-found k f ys d up.1 more.2))
    | inr here ↦
        let same = here.1 in
        let is : nat_eq (key y) k ≡ true = ap (λ n. nat_eq n k) same ∙ nat_eq_equiv.refl k in
        rw (here.0, is) refl
  ]

  -- ---- the order of the keys stays

  insert-above : (n : ℕ) (row : X) (xs : List X) → n < key row → IsAbove key n xs → IsAbove key n (insert_row key row xs)
  insert-above n row [] less up = (less, tt)
  insert-above n row (y ∷ ys) less up = elim (cases_order (key row) (key y)) [
    | inl same ↦
        let not_before : nat_lt (key row) (key y) ≡ false = le-ltb (key row) (key y) (omega (arith, same)) in
        let is : nat_eq (key row) (key y) ≡ true = ap (λ m. nat_eq (key row) m) (sym same) ∙ nat_eq_equiv.refl (key row) in
        rw (not_before, is) (less, up.1)
    | inr other ↦ elim other [
      | inl before ↦ rw (lt-ltb (key row) (key y) before) (less, (up.0, up.1))
      | inr after ↦
          let not_before : nat_lt (key row) (key y) ≡ false = le-ltb (key row) (key y) (omega (arith, after)) in
          let not_same : nat_eq (key row) (key y) ≡ false = apart (key row) (key y) (λ e. omega (arith, e, after)) in
          rw (not_before, not_same) (up.0, insert-above n row ys less up.1)
    ]
  ]

  -- rows ascend after one is put
  pub insert-ascending : (row : X) (xs : List X) → IsAscending key xs → IsAscending key (insert_row key row xs)
  insert-ascending row [] up = (tt, tt)
  insert-ascending row (y ∷ ys) up = elim (cases_order (key row) (key y)) [
    | inl same ↦
        let not_before : nat_lt (key row) (key y) ≡ false = le-ltb (key row) (key y) (omega (arith, same)) in
        let is : nat_eq (key row) (key y) ≡ true = ap (λ m. nat_eq (key row) m) (sym same) ∙ nat_eq_equiv.refl (key row) in
        rw (not_before, is) (subst (λ (n : ℕ). IsAbove key n ys) (sym same) up.0, up.1)
    | inr other ↦ elim other [
      | inl before ↦ rw (lt-ltb (key row) (key y) before) ((before, above_less (key row) (key y) ys before up.0), (up.0, up.1))
      | inr after ↦
          let not_before : nat_lt (key row) (key y) ≡ false = le-ltb (key row) (key y) (omega (arith, after)) in
          let not_same : nat_eq (key row) (key y) ≡ false = apart (key row) (key y) (λ e. omega (arith, e, after)) in
          rw (not_before, not_same) (insert-above (key y) row ys after up.0, insert-ascending row ys up.1)
    ]
  ]

  filter-above : (n : ℕ) (keep : X → Bool) (xs : List X) → IsAbove key n xs → IsAbove key n (filter keep xs)
  filter-above n keep [] up = tt
  filter-above n keep (y ∷ ys) up = elim (cases_Bool (keep y)) [
    | inl stays ↦ rw stays (up.0, filter-above n keep ys up.1)
    | inr goes ↦ rw goes (filter-above n keep ys up.1)
  ]

  -- rows ascend without some of them
  pub filter-ascending : (keep : X → Bool) (xs : List X) → IsAscending key xs → IsAscending key (filter keep xs)
  filter-ascending keep [] up = tt
  filter-ascending keep (y ∷ ys) up = elim (cases_Bool (keep y)) [
    | inl stays ↦ rw stays (filter-above (key y) keep ys up.0, filter-ascending keep ys up.1)
    | inr goes ↦ rw goes (filter-ascending keep ys up.1)
  ]

  -- rows ascend after one is removed
  pub remove-ascending : (k : ℕ) (xs : List X) → IsAscending key xs → IsAscending key (remove_row key k xs)
  remove-ascending k xs up = filter-ascending (λ x. not (nat_eq (key x) k)) xs up

  change-above : (n k : ℕ) (f : X → X) (xs : List X) → ((x : X) → key (f x) ≡ key x) → IsAbove key n xs → IsAbove key n (change_row key k f xs)
  change-above n k f [] kept up = tt
  change-above n k f (y ∷ ys) kept up = elim (cases_Bool (nat_eq (key y) k)) [
    | inl same ↦ let key_same = kept y in let more = up.0 in rw same (omega (arith, key_same, more), up.1)
    | inr other ↦ rw other (up.0, change-above n k f ys kept up.1)
  ]

  -- rows ascend after one changes and keeps its key
  pub change-ascending : (k : ℕ) (f : X → X) (xs : List X) → ((x : X) → key (f x) ≡ key x) → IsAscending key xs → IsAscending key (change_row key k f xs)
  change-ascending k f [] kept up = tt
  change-ascending k f (y ∷ ys) kept up = elim (cases_Bool (nat_eq (key y) k)) [
    | inl same ↦ rw same (subst (λ (n : ℕ). IsAbove key n ys) (sym (kept y)) up.0, up.1)
    | inr other ↦ rw other (change-above (key y) k f ys kept up.0, change-ascending k f ys kept up.1)
  ]

  map-above : (n : ℕ) (f : X → X) (xs : List X) → ((x : X) → key (f x) ≡ key x) → IsAbove key n xs → IsAbove key n (map f xs)
  map-above n f [] kept up = tt
  map-above n f (y ∷ ys) kept up = let key_same = kept y in let more = up.0 in (omega (arith, key_same, more), map-above n f ys kept up.1)

  -- rows ascend after each changes and keeps its key
  pub map-ascending : (f : X → X) (xs : List X) → ((x : X) → key (f x) ≡ key x) → IsAscending key xs → IsAscending key (map f xs)
  map-ascending f [] kept up = tt
  map-ascending f (y ∷ ys) kept up =
      (subst (λ (n : ℕ). IsAbove key n (map f ys)) (sym (kept y)) (map-above (key y) f ys kept up.0), map-ascending f ys kept up.1)

  -- ---- what the functions answer and make

  -- the search ends within the list or behind it
  pub front_len-within : (k : ℕ) (xs : List X) → front_len key k xs ≤ length xs
  front_len-within k [] = omega arith
  front_len-within k (y ∷ ys) = elim (cases_Bool (nat_lt (key y) k)) [
    | inl low ↦ let more = front_len-within k ys in rw low (omega (arith, more))
    | inr high ↦ rw high (omega arith)
  ]

  -- if the search ends at a row with this key, it is found there
  pub found_is : (k : ℕ) (xs : List X) (i : ℕ) (x : X) → i ≡ front_len key k xs → i < length xs → x ≡ get_or xs i x → key x ≡ k → IsFound key k xs (Ok i)
  found_is k xs i x at within is same =
      let there : slice_get xs i ≡ Some x = slice_get_read xs (length xs) i x refl within is in
      let row : row_at key k xs ≡ Some x = front_here k xs x (ap (slice_get xs) (sym at) ∙ there) same in
      (at, there ∙ sym row, ap is_some row)

  -- if the search ends at no row with this key, none has it, and one would go there
  pub missed_is : (k : ℕ) (xs : List X) (i : ℕ) → IsAscending key xs → i ≡ front_len key k xs → ((x : X) → slice_get xs i ≡ Some x → key x ≡ k → ⊥) → IsFound key k xs (Err i)
  missed_is k xs i up at h = (at, front_none k xs up (λ x there same. h x (ap (slice_get xs) at ∙ there) same))

  -- where a missing row would go is within the list or behind it
  pub missed_within : (k : ℕ) (xs : List X) (i : ℕ) → IsFound key k xs (Err i) → i ≤ length xs
  missed_within k xs i missed = let at = missed.0 in let within = front_len-within k xs in omega (arith, at, within)

  -- to set the row that was found is to put it
  pub put_found : (limit : ℕ) (row : X) (xs : List X) (i : ℕ) → IsAscending key xs → IsFound key (key row) xs (Ok i) → slice_set xs i row ≡ put_row key limit row xs
  put_found limit row xs i up found =
      rw (found.2, found.0) (sym (insert-found row xs up found.2))

  -- to insert a row if none was found is to put it, if there is room
  pub put_new : (limit : ℕ) (row : X) (xs : List X) (i : ℕ) → IsFound key (key row) xs (Err i) → length xs < limit → insert xs i row ≡ put_row key limit row xs
  put_new limit row xs i missed less =
      rw (missed.1, lt-ltb (length xs) limit less, missed.0) (sym (insert-none row xs missed.1))

  -- a row that was not found, in a full list, changes nothing when it is put
  pub put_full : (limit : ℕ) (row : X) (xs : List X) (i : ℕ) → IsFound key (key row) xs (Err i) → limit ≤ length xs → xs ≡ put_row key limit row xs
  put_full limit row xs i missed le = rw (missed.1, le-ltb (length xs) limit le) refl

  -- rows ascend after one is put into a list with a limit
  pub put-ascending : (limit : ℕ) (row : X) (xs : List X) → IsAscending key xs → IsAscending key (put_row key limit row xs)
  put-ascending limit row xs up = elim (cases_Bool (has_row key (key row) xs || nat_lt (length xs) limit)) [
    | inl takes ↦ rw takes (insert-ascending row xs up)
    | inr full ↦ rw full up
  ]

  -- to remove what was found is to remove the row with the key
  pub remove_at : (k : ℕ) (xs : List X) (i : ℕ) → IsAscending key xs → IsFound key k xs (Ok i) → remove xs i ≡ remove_row key k xs
  remove_at k xs i up found = rw found.0 (sym (remove-found k xs up found.2))

  -- to change what was found is to change the row with the key
  pub change_at : (k : ℕ) (f : X → X) (xs : List X) (i : ℕ) (d : X) → IsAscending key xs → IsFound key k xs (Ok i) → slice_set xs i (f (get_or xs i d)) ≡ change_row key k f xs
  change_at k f xs i d up found = rw found.0 (sym (change-found k f xs d up found.2))

  -- ---- how many rows there are

  insert-length : (row : X) (xs : List X) → length (insert_row key row xs) ≤ suc (length xs)
  insert-length row [] = omega arith
  insert-length row (y ∷ ys) = elim (cases_Bool (nat_lt (key row) (key y))) [
    | inl before ↦ rw before (omega arith)
    | inr after ↦ elim (cases_Bool (nat_eq (key row) (key y))) [
      | inl same ↦ rw (after, same) (omega arith)
      | inr other ↦ let rest = insert-length row ys in rw (after, other) (omega (arith, rest))
    ]
  ]

  insert-same : (row : X) (xs : List X) → IsAscending key xs → has_row key (key row) xs ≡ true → length (insert_row key row xs) ≡ length xs
  insert-same row [] up found = absurd cc
  insert-same row (y ∷ ys) up found = elim (found_cons (key row) y ys up found) [
    | inl more ↦
        let less : key y < key row = ltb-true (key y) (key row) more.0 in
        let not_before : nat_lt (key row) (key y) ≡ false = le-ltb (key row) (key y) (omega (arith, less)) in
        let not_same : nat_eq (key row) (key y) ≡ false = apart (key row) (key y) (λ e. omega (arith, e, less)) in
        rw (not_before, not_same) (ap suc (insert-same row ys up.1 more.2))
    | inr here ↦
        let same = here.1 in
        let not_before : nat_lt (key row) (key y) ≡ false = le-ltb (key row) (key y) (omega (arith, same)) in
        let is : nat_eq (key row) (key y) ≡ true = ap (λ n. nat_eq (key row) n) same ∙ nat_eq_equiv.refl (key row) in
        rw (not_before, is) refl
  ]

  -- a list within its limit is within it after a row is put
  pub put-length : (limit : ℕ) (row : X) (xs : List X) → IsAscending key xs → length xs ≤ limit → length (put_row key limit row xs) ≤ limit
  put-length limit row xs up few = elim (cases_Bool (has_row key (key row) xs)) [
    | inl there ↦ let same = insert-same row xs up there in rw there (omega (arith, same, few))
    | inr new ↦ elim (cases_Bool (nat_lt (length xs) limit)) [
      | inl room ↦
          let less : length xs < limit = ltb-true (length xs) limit room in
          let more = insert-length row xs in
          rw (new, room) (omega (arith, less, more))
      | inr full ↦ rw (new, full) few
    ]
  ]

  -- some of the rows are no more than all
  pub filter-length : (keep : X → Bool) (xs : List X) → length (filter keep xs) ≤ length xs
  filter-length keep [] = omega arith
  filter-length keep (y ∷ ys) =
      let rest = filter-length keep ys in
      elim (cases_Bool (keep y)) [
        | inl stays ↦ rw stays (omega (arith, rest))
        | inr goes ↦ rw goes (omega (arith, rest))
      ]

  -- without a row there are no more than with it
  pub remove-length : (k : ℕ) (xs : List X) → length (remove_row key k xs) ≤ length xs
  remove-length k xs = filter-length (λ x. not (nat_eq (key x) k)) xs

  -- a changed row leaves as many as there were
  pub change-length : (k : ℕ) (f : X → X) (xs : List X) → length (change_row key k f xs) ≡ length xs
  change-length k f [] = refl
  change-length k f (y ∷ ys) = elim (cases_Bool (nat_eq (key y) k)) [
    | inl here ↦ rw here refl
    | inr later ↦ rw later (ap suc (change-length k f ys))
  ]

  some_at : (o : Option X) (xs : List X) (i : ℕ) (d : X) → slice_get xs i ≡ o → is_some o ≡ true → Some (get_or xs i d) ≡ o
  some_at None xs i d e there = absurd cc
  some_at (Some x) xs i d e there = ap (λ (y : X). Some y) (get_or_from_slice_get xs i x d e)

  -- the row that was found is the one with the key
  pub take_at : (k : ℕ) (xs : List X) (i : ℕ) (r : X) → IsFound key k xs (Ok i) → r ≡ get_or xs i r → Some r ≡ row_at key k xs
  take_at k xs i r found is = ap (λ (y : X). Some y) is ∙ some_at (row_at key k xs) xs i r found.1 found.2

  -- ---- the last row

  -- the row read at the end is the last one
  pub last-read : (xs : List X) → slice_get xs (length xs - 1) ≡ last_row key xs
  last-read [] = refl
  last-read (x ∷ []) = refl
  last-read (x ∷ y ∷ ys) =
      let before : suc (suc (length ys)) - 1 ≡ suc (suc (length ys) - 1) = omega arith in
      ap (slice_get (x ∷ y ∷ ys)) before ∙ last-read (y ∷ ys)

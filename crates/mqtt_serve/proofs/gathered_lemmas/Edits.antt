-- Two edits of a list of rows, in either order.
use Rattle.std.proofs.Common.{◌≡◌, ℕ, Bool, true, false, cond, ◌||◌, List, [], ◌∷◌, length, nat_eq, nat_lt, refl, sym, ap, subst, ◌∙◌, inl, inr}
use Rattle.std.specs.Prelude.{Some}
use Rattle.std.proofs.lemmas.Bool.{eqb-true, cases_Bool}
use Rattle.std.proofs.lemmas.Cmp.{nat_eq_equiv}
use Rattle.mqtt_records.specs.lists.Order.{HasRoomFor, row_at, has_row, insert_row, put_row, remove_row, change_row}
use Rattle.mqtt_records.proofs.lists_lemmas.OrderLemmas.{apart, change-length}

module _ {X : Type 0} (key : X → ℕ) where
  -- ---- a row is changed, and another edit comes before or behind

  -- changes of two rows, or two changes of one that don't meet
  pub change-change : (j k : ℕ) (f g : X → X) (xs : List X) → ((x : X) → key (f x) ≡ key x) → ((x : X) → key (g x) ≡ key x) → (nat_eq j k ≡ true → (x : X) → f (g x) ≡ g (f x))
      → change_row key j f (change_row key k g xs) ≡ change_row key k g (change_row key j f xs)
  change-change j k f g [] keeps_f keeps_g alike = refl
  change-change j k f g (x ∷ xs) keeps_f keeps_g alike = elim (cases_Bool (nat_eq (key x) j)) [
    | inl first ↦ elim (cases_Bool (nat_eq (key x) k)) [
      | inl second ↦
          let is : key x ≡ j = eqb-true (key x) j first in
          let one : nat_eq j k ≡ true = ap (λ n. nat_eq n k) (sym is) ∙ second in
          let g_first : nat_eq (key (g x)) j ≡ true = ap (λ n. nat_eq n j) (keeps_g x) ∙ first in
          let f_second : nat_eq (key (f x)) k ≡ true = ap (λ n. nat_eq n k) (keeps_f x) ∙ second in
          rw (second, first, g_first, f_second) (ap (λ (y : X). y ∷ xs) (alike one x))
      | inr other ↦
          let f_other : nat_eq (key (f x)) k ≡ false = ap (λ n. nat_eq n k) (keeps_f x) ∙ other in
          rw (other, first, f_other) refl
    ]
    | inr later ↦ elim (cases_Bool (nat_eq (key x) k)) [
      | inl second ↦
          let g_later : nat_eq (key (g x)) j ≡ false = ap (λ n. nat_eq n j) (keeps_g x) ∙ later in
          rw (later, second, g_later) refl
      | inr other ↦ rw (later, other, later) (ap (λ (ys : List X). x ∷ ys) (change-change j k f g xs keeps_f keeps_g alike))
    ]
  ]

  -- a changed row is found where it was
  pub has_row-change : (j k : ℕ) (h : X → X) (xs : List X) → ((x : X) → key (h x) ≡ key x) → has_row key j (change_row key k h xs) ≡ has_row key j xs
  has_row-change j k h [] keeps = refl
  has_row-change j k h (x ∷ xs) keeps = elim (cases_Bool (nat_eq (key x) k)) [
    | inl here ↦ elim (cases_Bool (nat_eq (key x) j)) [
      | inl asked ↦ let same : nat_eq (key (h x)) j ≡ true = ap (λ n. nat_eq n j) (keeps x) ∙ asked in rw (here, same, asked) refl
      | inr other ↦ let same : nat_eq (key (h x)) j ≡ false = ap (λ n. nat_eq n j) (keeps x) ∙ other in rw (here, same, other) refl
    ]
    | inr later ↦ elim (cases_Bool (nat_eq (key x) j)) [
      | inl asked ↦ rw (later, asked) refl
      | inr other ↦ rw (later, other) (has_row-change j k h xs keeps)
    ]
  ]

  -- and leaves the room that there was
  pub room-change : (limit j k : ℕ) (h : X → X) (xs : List X) → ((x : X) → key (h x) ≡ key x)
      → (has_row key j (change_row key k h xs) || nat_lt (length (change_row key k h xs)) limit) ≡ (has_row key j xs || nat_lt (length xs) limit)
  room-change limit j k h xs keeps =
      ap (λ (b : Bool). b || nat_lt (length (change_row key k h xs)) limit) (has_row-change j k h xs keeps)
      ∙ ap (λ (n : ℕ). has_row key j xs || nat_lt n limit) (change-length key k h xs)

  insert-change : (row : X) (k : ℕ) (h : X → X) (xs : List X) → ((x : X) → key (h x) ≡ key x) → nat_eq (key row) k ≡ false
      → insert_row key row (change_row key k h xs) ≡ change_row key k h (insert_row key row xs)
  insert-change row k h [] keeps differ = rw differ refl
  insert-change row k h (x ∷ xs) keeps differ = elim (cases_Bool (nat_eq (key x) k)) [
    | inl here ↦
        let is : key x ≡ k = eqb-true (key x) k here in
        let kept : key (h x) ≡ key x = keeps x in
        let not_x : nat_eq (key row) (key x) ≡ false = ap (nat_eq (key row)) is ∙ differ in
        elim (cases_Bool (nat_lt (key row) (key x))) [
          | inl before ↦ rw (here, kept, before, differ, here) refl
          | inr after ↦ rw (here, kept, after, not_x, here) refl
        ]
    | inr later ↦ elim (cases_Bool (nat_lt (key row) (key x))) [
      | inl before ↦ rw (later, before, differ, later) refl
      | inr after ↦ elim (cases_Bool (nat_eq (key row) (key x))) [
        | inl same ↦ rw (later, after, same, differ) refl
        | inr other ↦ rw (later, after, other, later) (ap (λ (ys : List X). x ∷ ys) (insert-change row k h xs keeps differ))
      ]
    ]
  ]

  -- another row is put
  pub put-change : (limit : ℕ) (row : X) (k : ℕ) (h : X → X) (xs : List X) → ((x : X) → key (h x) ≡ key x) → nat_eq (key row) k ≡ false
      → put_row key limit row (change_row key k h xs) ≡ change_row key k h (put_row key limit row xs)
  put-change limit row k h xs keeps differ =
      let room = room-change limit (key row) k h xs keeps in
      elim (cases_Bool (has_row key (key row) xs || nat_lt (length xs) limit)) [
        | inl takes ↦ rw (room ∙ takes, takes) (insert-change row k h xs keeps differ)
        | inr full ↦ rw (room ∙ full, full) refl
      ]

  -- another row is removed
  pub remove-change : (j k : ℕ) (h : X → X) (xs : List X) → ((x : X) → key (h x) ≡ key x) → nat_eq k j ≡ false
      → remove_row key j (change_row key k h xs) ≡ change_row key k h (remove_row key j xs)
  remove-change j k h [] keeps differ = refl
  remove-change j k h (x ∷ xs) keeps differ = elim (cases_Bool (nat_eq (key x) k)) [
    | inl here ↦
        let is : key x ≡ k = eqb-true (key x) k here in
        let not_x : nat_eq (key x) j ≡ false = ap (λ n. nat_eq n j) is ∙ differ in
        let not_h : nat_eq (key (h x)) j ≡ false = ap (λ n. nat_eq n j) (keeps x) ∙ not_x in
        rw (here, not_h, not_x, here) refl
    | inr later ↦ elim (cases_Bool (nat_eq (key x) j)) [
      | inl goes ↦ rw (later, goes) (remove-change j k h xs keeps differ)
      | inr stays ↦ rw (later, stays, later) (ap (λ (ys : List X). x ∷ ys) (remove-change j k h xs keeps differ))
    ]
  ]

  -- ---- two edits of one row are one

  -- what is changed twice is changed once, by both
  pub change-twice : (k : ℕ) (f g both : X → X) (xs : List X) → ((x : X) → key (g x) ≡ key x) → ((x : X) → row_at key k xs ≡ Some x → f (g x) ≡ both x)
      → change_row key k f (change_row key k g xs) ≡ change_row key k both xs
  change-twice k f g both [] keeps each = refl
  change-twice k f g both (x ∷ xs) keeps each = elim (cases_Bool (nat_eq (key x) k)) [
    | inl here ↦
        let again : nat_eq (key (g x)) k ≡ true = ap (λ n. nat_eq n k) (keeps x) ∙ here in
        rw (here, again) (ap (λ (y : X). y ∷ xs) (each x (ap (λ (b : Bool). cond b (Some x) (row_at key k xs)) here)))
    | inr later ↦
        rw (later, later)
        (ap (λ (ys : List X). x ∷ ys) (change-twice k f g both xs keeps (λ y found. each y (ap (λ (b : Bool). cond b (Some x) (row_at key k xs)) later ∙ found))))
  ]

  insert-then : (row : X) (h : X → X) (xs : List X) → key (h row) ≡ key row → change_row key (key row) h (insert_row key row xs) ≡ insert_row key (h row) xs
  insert-then row h [] same = let self = nat_eq_equiv.refl (key row) in rw self refl
  insert-then row h (x ∷ xs) same =
      let self : nat_eq (key row) (key row) ≡ true = nat_eq_equiv.refl (key row) in
      elim (cases_Bool (nat_lt (key row) (key x))) [
        | inl before ↦ rw (same, before, self) refl
        | inr after ↦ elim (cases_Bool (nat_eq (key row) (key x))) [
          | inl is ↦ rw (same, after, is, self) refl
          | inr other ↦
              let not_x : nat_eq (key x) (key row) ≡ false = apart (key x) (key row) (λ e. let both : true ≡ false = sym self ∙ (ap (nat_eq (key row)) (sym e) ∙ other) in absurd cc) in
              rw (same, after, other, not_x) (ap (λ (ys : List X). x ∷ ys) (insert-then row h xs same))
        ]
      ]

  -- a row that is put and then changed is put changed
  pub put-then : (limit : ℕ) (row : X) (h : X → X) (xs : List X) → key (h row) ≡ key row → HasRoomFor key limit (key row) xs
      → change_row key (key row) h (put_row key limit row xs) ≡ put_row key limit (h row) xs
  put-then limit row h xs same room =
      let again : HasRoomFor key limit (key (h row)) xs = subst (λ (n : ℕ). HasRoomFor key limit n xs) (sym same) room in
      rw (room, again) (insert-then row h xs same)

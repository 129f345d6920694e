-- What is found by key after an edit, and that look-ups determine a list.
use Rattle.std.proofs.Common.{◌≡◌, ℕ, ◌<◌, Bool, true, false, cond, List, [], ◌∷◌, ◌++◌, length, nat_eq, nat_lt, refl, sym, ap, subst, ◌∙◌, arith, inl, inr}
use Rattle.std.specs.Prelude.{Option, Some, None}
use Rattle.std.proofs.lemmas.Bool.{eqb-true, cases_Bool, cases_order, lt-ltb, le-ltb}
use Rattle.std.proofs.lemmas.Cmp.{nat_eq_equiv}
use Rattle.mqtt_records.specs.lists.Order.{IsAbove, IsAscending, IsBelow, HasRoomFor, row_at, has_row, insert_row, put_row, remove_row}
use Rattle.mqtt_records.proofs.lists_lemmas.OrderLemmas.{apart, above_none, above_less}

module _ {X : Type 0} (key : X → ℕ) where
  -- the row at the front, asked for by its own key
  pub row_at-here : (row : X) (xs : List X) → row_at key (key row) (row ∷ xs) ≡ Some row
  row_at-here row xs = ap (λ (b : Bool). cond b (Some row) (row_at key (key row) xs)) (nat_eq_equiv.refl (key row))

  -- of two keys that differ, it doesn't matter which is asked for first
  swapped : (k m n : ℕ) (a b c : Option X) → nat_eq m n ≡ false → cond (nat_eq m k) a (cond (nat_eq n k) b c) ≡ cond (nat_eq n k) b (cond (nat_eq m k) a c)
  swapped k m n a b c differ = elim (cases_Bool (nat_eq m k)) [
    | inl first ↦
        let is : m ≡ k = eqb-true m k first in
        let other : nat_eq n k ≡ false = apart n k (λ e. let both : nat_eq m n ≡ true = ap (nat_eq m) (e ∙ sym is) ∙ nat_eq_equiv.refl m in let no : true ≡ false = sym both ∙ differ in absurd cc) in
        rw (first, other) refl
    | inr next ↦ rw next refl
  ]

  -- after a row is put it is found by its key, and every other as before
  pub row_at-insert_row : (k : ℕ) (row : X) (xs : List X) → row_at key k (insert_row key row xs) ≡ cond (nat_eq (key row) k) (Some row) (row_at key k xs)
  row_at-insert_row k row [] = refl
  row_at-insert_row k row (y ∷ ys) = elim (cases_order (key row) (key y)) [
    | inl same ↦
        let not_before : nat_lt (key row) (key y) ≡ false = le-ltb (key row) (key y) (omega (arith, same)) in
        let is : nat_eq (key row) (key y) ≡ true = ap (λ m. nat_eq (key row) m) (sym same) ∙ nat_eq_equiv.refl (key row) in
        elim (cases_Bool (nat_eq (key row) k)) [
          | inl asked ↦ rw (not_before, is, asked) refl
          | inr other ↦ let not_y : nat_eq (key y) k ≡ false = ap (λ m. nat_eq m k) (sym same) ∙ other in rw (not_before, is, other, not_y) refl
        ]
    | inr other ↦ elim other [
      | inl before ↦ rw (lt-ltb (key row) (key y) before) refl
      | inr after ↦
          let not_before : nat_lt (key row) (key y) ≡ false = le-ltb (key row) (key y) (omega (arith, after)) in
          let not_same : nat_eq (key row) (key y) ≡ false = apart (key row) (key y) (λ e. omega (arith, e, after)) in
          let differ : nat_eq (key y) (key row) ≡ false = apart (key y) (key row) (λ e. omega (arith, e, after)) in
          rw (not_before, not_same)
          (ap (λ (o : Option X). cond (nat_eq (key y) k) (Some y) o) (row_at-insert_row k row ys)
          ∙ swapped k (key y) (key row) (Some y) (Some row) (row_at key k ys) differ)
    ]
  ]

  -- after a row is put if there is room it is found by its key, and every other as before
  pub row_at-put_row : (limit k : ℕ) (row : X) (xs : List X) → HasRoomFor key limit (key row) xs → row_at key k (put_row key limit row xs) ≡ cond (nat_eq (key row) k) (Some row) (row_at key k xs)
  row_at-put_row limit k row xs room = rw room (row_at-insert_row k row xs)

  -- after a row is removed none is found by its key, and every other as before
  pub row_at-remove_row : (k j : ℕ) (xs : List X) → row_at key k (remove_row key j xs) ≡ cond (nat_eq j k) None (row_at key k xs)
  row_at-remove_row k j [] = elim (cases_Bool (nat_eq j k)) [ inl asked ↦ rw asked refl | inr other ↦ rw other refl ]
  row_at-remove_row k j (y ∷ ys) = elim (cases_Bool (nat_eq (key y) j)) [
    | inl goes ↦
        let is : key y ≡ j = eqb-true (key y) j goes in
        elim (cases_Bool (nat_eq j k)) [
          | inl asked ↦ rw (goes, asked) (row_at-remove_row k j ys ∙ ap (λ (b : Bool). cond b None (row_at key k ys)) asked)
          | inr other ↦
              let not_y : nat_eq (key y) k ≡ false = ap (λ m. nat_eq m k) is ∙ other in
              rw (goes, other, not_y) (row_at-remove_row k j ys ∙ ap (λ (b : Bool). cond b None (row_at key k ys)) other)
        ]
    | inr stays ↦
        rw stays
        (ap (λ (o : Option X). cond (nat_eq (key y) k) (Some y) o) (row_at-remove_row k j ys)
        ∙ swapped k (key y) j (Some y) None (row_at key k ys) stays)
  ]

  -- a key above all others comes last
  pub insert_row-last : (row : X) (xs : List X) → IsBelow key (key row) xs → insert_row key row xs ≡ xs ++ row ∷ []
  insert_row-last row [] low = refl
  insert_row-last row (y ∷ ys) low =
      let less = low.0 in
      let not_before : nat_lt (key row) (key y) ≡ false = le-ltb (key row) (key y) (omega (arith, less)) in
      let not_same : nat_eq (key row) (key y) ≡ false = apart (key row) (key y) (λ e. omega (arith, e, less)) in
      rw (not_before, not_same) (ap (λ (zs : List X). y ∷ zs) (insert_row-last row ys low.1))

  -- a row above all others comes last, if there is room
  pub put_row-last : (limit : ℕ) (row : X) (xs : List X) → IsBelow key (key row) xs → length xs < limit → put_row key limit row xs ≡ xs ++ row ∷ []
  put_row-last limit row xs low room = elim (cases_Bool (has_row key (key row) xs)) [
    | inl there ↦ rw there (insert_row-last row xs low)
    | inr new ↦ rw (new, lt-ltb (length xs) limit room) (insert_row-last row xs low)
  ]

  -- ---- look-ups determine a list

  never : (x y : X) (xs ys : List X) → key x < key y → IsAbove key (key y) ys → row_at key (key x) (x ∷ xs) ≡ row_at key (key x) (y ∷ ys) → ⊥
  never x y xs ys less up h =
      let none : row_at key (key x) (y ∷ ys) ≡ None = above_none key (key x) (y ∷ ys) (less, above_less key (key x) (key y) ys less up) in
      let both : Some x ≡ None = sym (row_at-here x xs) ∙ (h ∙ none) in
      absurd cc

  rest : (k : ℕ) (a b : X) (xs ys : List X) → key a ≡ key b → IsAbove key (key a) xs → IsAbove key (key b) ys → row_at key k (a ∷ xs) ≡ row_at key k (b ∷ ys) → row_at key k xs ≡ row_at key k ys
  rest k a b xs ys same up vp h = elim (cases_Bool (nat_eq (key a) k)) [
    | inl is ↦
        let asked : key a ≡ k = eqb-true (key a) k is in
        subst (λ (n : ℕ). row_at key n xs ≡ row_at key n ys) asked
        (above_none key (key a) xs up ∙ sym (above_none key (key a) ys (subst (λ (n : ℕ). IsAbove key n ys) (sym same) vp)))
    | inr other ↦
        let not_b : nat_eq (key b) k ≡ false = ap (λ n. nat_eq n k) (sym same) ∙ other in
        let mine : row_at key k (a ∷ xs) ≡ row_at key k xs = ap (λ (c : Bool). cond c (Some a) (row_at key k xs)) other in
        let theirs : row_at key k (b ∷ ys) ≡ row_at key k ys = ap (λ (c : Bool). cond c (Some b) (row_at key k ys)) not_b in
        sym mine ∙ (h ∙ theirs)
  ]

  -- two lists in order in which the same is found by each key are the same
  pub same_rows : (xs ys : List X) → IsAscending key xs → IsAscending key ys → ((k : ℕ) → row_at key k xs ≡ row_at key k ys) → xs ≡ ys
  same_rows [] [] up vp h = refl
  same_rows [] (y ∷ ys) up vp h = let both : None ≡ Some y = h (key y) ∙ row_at-here y ys in absurd cc
  same_rows (x ∷ xs) [] up vp h = let both : Some x ≡ None = sym (row_at-here x xs) ∙ h (key x) in absurd cc
  same_rows (x ∷ xs) (y ∷ ys) up vp h = elim (cases_order (key x) (key y)) [
    | inl same ↦
        let there : row_at key (key x) (y ∷ ys) ≡ Some y = ap (λ n. row_at key n (y ∷ ys)) same ∙ row_at-here y ys in
        let both : Some x ≡ Some y = sym (row_at-here x xs) ∙ (h (key x) ∙ there) in
        let first : x ≡ y = cc in
        let tails : xs ≡ ys = same_rows xs ys up.1 vp.1 (λ k. rest k x y xs ys same up.0 vp.0 (h k)) in
        ap (λ (z : X). z ∷ xs) first ∙ ap (λ (zs : List X). y ∷ zs) tails
    | inr other ↦ elim other [
      | inl less ↦ absurd (never x y xs ys less vp.0 (h (key x)))
      | inr more ↦ absurd (never y x ys xs more up.0 (sym (h (key y))))
    ]
  ]

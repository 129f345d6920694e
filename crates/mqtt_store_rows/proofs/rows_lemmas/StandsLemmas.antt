-- The message that stands under a number, where a search by halves ends, and the first of sessions.
use Rattle.std.proofs.Common.{◌≡◌, ℕ, ◌<◌, ◌≤◌, Bool, cond, nat_eq, List, [], ◌∷◌, length, get_or, refl, sym, ap, subst, ◌∙◌, arith, inl, inr}
use Rattle.std.specs.Prelude.{Some, None, slice_get}
use Rattle.std.proofs.lemmas.Bool.{cases_Bool, eqb-true}
use Rattle.std.proofs.lemmas.Cmp.{nat_eq_equiv}
use Rattle.std.proofs.lemmas.Option.{slice_get_read, slice_get_within}
use Rattle.mqtt_records.specs.declared.messages.message.Content.{Content}
use Rattle.mqtt_records.specs.lists.Order.{IsAscending, row_at, remove_row, front_len}
use Rattle.mqtt_records.proofs.lists_lemmas.LookUps.{row_at-here}
use Rattle.mqtt_records.proofs.lists_lemmas.OrderLemmas.{above_none, remove-none, front_here, front_none}
use Rattle.mqtt_records.specs.state.Contents.{StoredMessage, stored_message}
use Rattle.mqtt_store_rows.specs.rows.Joins.{publication_of, Stands}
use Rattle.mqtt_store_rows.specs.rows.Ones.{same_stored}

-- what is found under a number has it
pub found_number : (n : ℕ) (ms : List StoredMessage) (m : StoredMessage) → row_at publication_of n ms ≡ Some m → m.publication ≡ n
found_number n [] m found = absurd cc
found_number n (l ∷ ms) m found = elim (cases_Bool (nat_eq l.publication n)) [
  | inl here ↦
      let first : Some l ≡ Some m = ap (λ (b : Bool). cond b (Some l) (row_at publication_of n ms)) (sym here) ∙ found in
      let same : l ≡ m = cc in
      ap publication_of (sym same) ∙ eqb-true l.publication n here
  | inr other ↦ found_number n ms m (ap (λ (b : Bool). cond b (Some l) (row_at publication_of n ms)) (sym other) ∙ found)
]

-- a content that says what is found under a number stands there
pub stands_at : (ms : List StoredMessage) (n : ℕ) (m : StoredMessage) (c : Content) → row_at publication_of n ms ≡ Some m → c.topic ≡ m.topic → c.properties ≡ m.properties → c.payload ≡ m.payload → Stands ms (stored_message n c)
stands_at ms n m c found topic properties payload =
    let number : m.publication ≡ n = found_number n ms m found in
    found ∙ ap Some (same_stored m.publication n m.topic c.topic m.properties c.properties m.payload c.payload number (sym topic) (sym properties) (sym payload))

module _ {X : Type 0} (key : X → ℕ) where
  -- where there is no first, there is none
  pub none_first : (xs : List X) → slice_get xs 0 ≡ None → xs ≡ []
  none_first [] none = refl
  none_first (x ∷ xs) none = absurd cc

  -- what is found by the key of the first is the first, and the others are left without it
  pub first_taken : (xs : List X) (x y : X) → IsAscending key xs → slice_get xs 0 ≡ Some x → Some y ≡ row_at key (key x) xs → xs ≡ y ∷ remove_row key (key x) xs
  first_taken [] x y up first found = absurd cc
  first_taken (z ∷ xs) x y up first found =
      let is : x ≡ z = cc in
      let there : Some y ≡ row_at key (key z) (z ∷ xs) = subst (λ (w : X). Some y ≡ row_at key (key w) (z ∷ xs)) is found in
      let both : Some y ≡ Some z = there ∙ row_at-here key z xs in
      let same : z ≡ y = cc in
      let gone : remove_row key (key z) (z ∷ xs) ≡ xs = rw (nat_eq_equiv.refl (key z)) (remove-none key (key z) xs (above_none key (key z) xs up.0)) in
      let left : xs ≡ remove_row key (key x) (z ∷ xs) = sym gone ∙ ap (λ (w : X). remove_row key (key w) (z ∷ xs)) (sym is) in
      ap (λ (w : X). w ∷ xs) same ∙ ap (λ (l : List X). y ∷ l) left

  -- the first is found by its key
  pub first_stands : (xs : List X) (x : X) → slice_get xs 0 ≡ Some x → row_at key (key x) xs ≡ Some x
  first_stands [] x first = absurd cc
  first_stands (z ∷ xs) x first = let is : z ≡ x = cc in subst (λ (w : X). row_at key (key w) (z ∷ xs) ≡ Some w) is (row_at-here key z xs)

  -- what stands where a search ends is found, if it has the key
  pub found_at : (k : ℕ) (xs : List X) (i : ℕ) (x : X) → i ≡ front_len key k xs → i < length xs → x ≡ get_or xs i x → key x ≡ k → Some x ≡ row_at key k xs
  found_at k xs i x at within is same = sym (front_here key k xs x (ap (slice_get xs) (sym at) ∙ slice_get_read xs (length xs) i x refl within is) same)

  -- if it has another key, none is found
  pub other_at : (k : ℕ) (xs : List X) (i : ℕ) (x : X) → IsAscending key xs → i ≡ front_len key k xs → i < length xs → x ≡ get_or xs i x → (key x ≡ k → ⊥) → None ≡ row_at key k xs
  other_at k xs i x up at within is other =
      sym (front_none key k xs up (λ y there same. let both : Some x ≡ Some y = sym (slice_get_read xs (length xs) i x refl within is) ∙ (ap (slice_get xs) at ∙ there) in let one : x ≡ y = cc in other (ap key one ∙ same)))

  -- if nothing stands there, none is found
  pub nothing_at : (k : ℕ) (xs : List X) (i : ℕ) → IsAscending key xs → i ≡ front_len key k xs → length xs ≤ i → None ≡ row_at key k xs
  nothing_at k xs i up at past =
      sym (front_none key k xs up (λ y there same. let within : i < length xs = slice_get_within xs i y (ap (slice_get xs) at ∙ there) in absurd (omega (arith, within, past))))

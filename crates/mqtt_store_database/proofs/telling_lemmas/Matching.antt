-- Rows that are those of the items of a list, each once, stand in the order of the list when they are moved.
use Rattle.std.proofs.Common.{◌≡◌, ◌⊎◌, ℕ, Bool, List, [], ◌∷◌, ◌++◌, filter, refl, sym, ap, subst, inl, inr, IsPermutation, Less, arith}
use Rattle.std.proofs.lemmas.Bool.{cases_Bool}
use Rattle.std.proofs.lemmas.Cmp.{tied_itself}
use Rattle.std.proofs.lemmas.List.Sorted.{IsPermutation-refl, IsPermutation-trans, IsPermutation-cons, IsPermutation-middle}
use Rattle.sqlite_value.specs.Order.{Row, value_cmp}
use Rattle.sqlite_value.proofs.OrderLemmas.{value_cmp_total}
use Rattle.sqlite_trees.specs.Tree.{IsTable, rowid}
use Rattle.sqlite_rules.specs.Lists.{Has}
use Rattle.sqlite_rules.proofs.ListLemmas.{all_has, has_filtered}
use Rattle.mqtt_records.specs.lists.Order.{IsAscending}
use Rattle.mqtt_records.specs.state.Members as members
use Rattle.mqtt_store_rows.specs.values.Lists.{AreRows}
use Rattle.mqtt_store_database.proofs.item_laws_lemmas.records.Members.{has_above}

-- ---- lists in which no item stands twice

abbrev pub AreSingle : {X : Type 0} → List X → Type 0
AreSingle [] = Unit {0}
AreSingle (x ∷ xs) = (Has xs x → ⊥) × AreSingle xs

-- rows with rising numbers are such
pub table_single : (rows : List Row) → IsTable rows → AreSingle rows
table_single [] up = tt
table_single (row ∷ rows) up = (
  λ again.
      let less : value_cmp (rowid row) (rowid row) ≡ Less = all_has _ rows row up.0 again in
      let tied = tied_itself value_cmp_total (rowid row) in
      absurd cc,
  table_single rows up.1,
)

-- some of rows that differ differ
pub filter_single : {X : Type 0} (passes : X → Bool) (xs : List X) → AreSingle xs → AreSingle (filter passes xs)
filter_single passes [] one = tt
filter_single passes (x ∷ xs) one = elim (cases_Bool (passes x)) [
  | inl passed ↦ rw passed (λ again. one.0 (has_filtered passes xs x again).0, filter_single passes xs one.1)
  | inr failed ↦ rw failed (filter_single passes xs one.1)
]

-- ---- a list without one of its items

module _ {X : Type 0} where
  record Split (xs : List X) (x : X) : Type 0 where
    front : List X
    back : List X
    parts : xs ≡ front ++ x ∷ back

  split : (xs : List X) (x : X) → Has xs x → Split xs x
  split [] x h = absurd h
  split (y ∷ ys) x (inl here) = record { front = []; back = ys; parts = ap (λ z. z ∷ ys) (sym here) }
  split (y ∷ ys) x (inr later) = let it = split ys x later in record { front = y ∷ it.front; back = it.back; parts = ap (λ l. y ∷ l) it.parts }

  back_in : (front : List X) (x : X) (back : List X) (z : X) → Has (front ++ back) z → Has (front ++ x ∷ back) z
  back_in [] x back z h = inr h
  back_in (y ∷ front) x back z (inl here) = inl here
  back_in (y ∷ front) x back z (inr later) = inr (back_in front x back z later)

  either : (front : List X) (x : X) (back : List X) (z : X) → Has (front ++ x ∷ back) z → (z ≡ x) ⊎ Has (front ++ back) z
  either [] x back z h = h
  either (y ∷ front) x back z (inl here) = inr (inl here)
  either (y ∷ front) x back z (inr later) = elim (either front x back z later) [ inl is ↦ inl is | inr other ↦ inr (inr other) ]

  -- where it stood once it isn't left
  left_out : (front : List X) (x : X) (back : List X) → AreSingle (front ++ x ∷ back) → Has (front ++ back) x → ⊥
  left_out [] x back one again = one.0 again
  left_out (y ∷ front) x back one (inl here) = one.0 (middle front x back y (sym here))
    where
      middle : (front : List X) (x : X) (back : List X) (y : X) → y ≡ x → Has (front ++ x ∷ back) y
      middle [] x back y same = inl same
      middle (z ∷ front) x back y same = inr (middle front x back y same)
  left_out (y ∷ front) x back one (inr later) = left_out front x back one.1 later

  rest_single : (front : List X) (x : X) (back : List X) → AreSingle (front ++ x ∷ back) → AreSingle (front ++ back)
  rest_single [] x back one = one.1
  rest_single (y ∷ front) x back one = (λ again. one.0 (back_in front x back y again), rest_single front x back one.1)

-- ---- rows and items

module _ {X : Type 0} (key : X → ℕ) (Is : X → Row → Type 0) where
  -- in some order the rows are those of these items, one by one
  pub record Matched (xs : List X) (rows : List Row) : Type 0 where
    pub ordered : List Row
    pub moved : IsPermutation rows ordered
    pub are : AreRows Is ordered xs

  module _ (fit : (x : X) (a b : Row) → Is x a → Is x b → a ≡ b) (same_key : (x y : X) (a : Row) → Is x a → Is y a → key x ≡ key y) where
    -- each item has a row, and each row an item: so they are
    pub matched : (xs : List X) (rows : List Row) → IsAscending key xs → AreSingle rows → ((x : X) → members.Has xs x → (row : Row) × Has rows row × Is x row)
        → ((row : Row) → Has rows row → (x : X) × members.Has xs x × Is x row) → Matched xs rows
    matched [] [] up one each only = record { ordered = []; moved = IsPermutation-refl []; are = tt }
    matched [] (row ∷ rows) up one each only = absurd ((only row (inl refl)).1)
    matched (x ∷ xs) rows up one each only =
        let own = each x (inl refl) in
        let cut = split rows own.0 own.1 in
        let front = cut.front in
        let back = cut.back in
        let whole : AreSingle (front ++ own.0 ∷ back) = subst AreSingle cut.parts one in
        let later = matched xs (front ++ back) up.1 (rest_single front own.0 back whole)
        (λ y h.
        let it = each y (inr h) in
        let more = has_above key (key x) xs y up.0 h in
        let there : Has (front ++ back) it.0 = elim (either front own.0 back it.0 (subst (λ l. Has l it.0) cut.parts it.1)) [
          | inl same ↦ let is : key y ≡ key x = same_key y x own.0 (subst (Is y) same it.2) own.2 in absurd (omega (arith, more, is))
          | inr other ↦ other
        ] in
        (it.0, there, it.2))
        (λ row h.
        let it = only row (subst (λ l. Has l row) (sym cut.parts) (back_in front own.0 back row h)) in
        let there : members.Has xs it.0 = elim it.1 [
          | inl here ↦ absurd (left_out front own.0 back whole (subst (Has (front ++ back)) (fit x row own.0 (subst (λ y. Is y row) here it.2) own.2) h))
          | inr other ↦ other
        ] in
        (it.0, there, it.2)) in
        let first : IsPermutation rows (own.0 ∷ (front ++ back)) = subst (λ l. IsPermutation l (own.0 ∷ (front ++ back))) (sym cut.parts) (IsPermutation-middle front own.0 back) in
        record { ordered = own.0 ∷ later.ordered; moved = IsPermutation-trans rows (own.0 ∷ (front ++ back)) (own.0 ∷ later.ordered) first (IsPermutation-cons own.0 (front ++ back) later.ordered later.moved); are = (own.2, later.are) }

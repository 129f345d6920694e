-- Lemmas on neighbours in the order of filters.
use Rattle.std.proofs.Common.{◌≡◌, ℕ, ◌<◌, ◌≤◌, Bool, true, false, ◌&&◌, List, [], ◌∷◌, get_or, refl, sym, ap, ◌∙◌, ⊎_elim, arith, nat_lt, nat_le, Some}
use Rattle.std.proofs.lemmas.Bool.{cases_lt}
use Rattle.std.proofs.lemmas.Bool.Decides.{nat_tests}
use Rattle.mqtt_routes.specs.declared.tree.run.Run.{Run}
use Rattle.mqtt_routes.specs.tree.Tree.{in_order, is_before, is_within, begins_with, rest_of, levels_behind, end_of}
use Rattle.mqtt_routes.proofs.tree_lemmas.TextLemmas.{begins_more}
use Rattle.mqtt_routes.proofs.tree_lemmas.OrderLemmas.{begins_between, begins_not_before, begins_not_behind, order_tails}

within_yes : (lo hi i : ℕ) → lo ≤ i → i < hi → (nat_le lo i && nat_lt i hi) ≡ true
within_yes lo hi i a b = grind (arith, nat_tests)

within_below : (lo hi i : ℕ) → i < lo → (nat_le lo i && nat_lt i hi) ≡ false
within_below lo hi i a = grind (arith, nat_tests)

above_by : (b : Bool) → (b && false) ≡ false
above_by true = refl
above_by false = refl

within_above : (lo hi i : ℕ) → hi ≤ i → (nat_le lo i && nat_lt i hi) ≡ false
within_above lo hi i a = let no : nat_lt i hi ≡ false = grind (arith, nat_tests) in ap (λ b. nat_le lo i && b) no ∙ above_by (nat_le lo i)

-- within a run is from its begin and before its end
pub within_parts : (lo hi i : ℕ) → (nat_le lo i && nat_lt i hi) ≡ true → (lo ≤ i) × (i < hi)
within_parts lo hi i h = ⊎_elim (λ below. let no = within_below lo hi i below in cc) (λ from. ⊎_elim (λ to. (from, to)) (λ above. let no = within_above lo hi i above in cc) (cases_lt i hi)) (cases_lt i lo)

-- the numbers of a run that pass a test, if they are those between two
pub which_between : (from to lo hi i : ℕ) (b : Bool) → from ≤ lo → hi ≤ to → (from ≤ i → i < lo → b ≡ false) → (lo ≤ i → i < hi → b ≡ true) → (hi ≤ i → i < to → b ≡ false) →
    (nat_le lo i && nat_lt i hi) ≡ ((nat_le from i && nat_lt i to) && b)
which_between from to lo hi i b l h before inside behind =
    ⊎_elim
    (λ outside. within_below lo hi i (omega (arith, outside, l)) ∙ sym (ap (λ t. t && b) (within_below from to i outside)))
    (λ at. ⊎_elim
    (λ below. within_below lo hi i below ∙ sym (⊎_elim
    (λ under. ap (λ t. (nat_le from i && nat_lt i to) && t) (before at below) ∙ above_by (nat_le from i && nat_lt i to))
    (λ over. ap (λ t. t && b) (within_above from to i over)) (cases_lt i to)))
    (λ reached. ⊎_elim
    (λ under. within_yes lo hi i reached under ∙ sym (ap (λ t. t && b) (within_yes from to i at (omega (arith, under, h))) ∙ inside reached under))
    (λ past. within_above lo hi i past ∙ sym (⊎_elim
    (λ under. ap (λ t. (nat_le from i && nat_lt i to) && t) (behind past under) ∙ above_by (nat_le from i && nat_lt i to))
    (λ over. ap (λ t. t && b) (within_above from to i over)) (cases_lt i to)))
    (cases_lt i hi))
    (cases_lt i lo))
    (cases_lt i from)

false_by : (b : Bool) → (b ≡ true → ⊥) → b ≡ false
false_by true h = absurd (h refl)
false_by false h = refl

-- the filters of a run that begin with a level are those between what comes before it and what comes behind it
module _ (texts : List (List ℕ)) (run : Run) (l : List ℕ) where
  -- a filter that comes before the level doesn't begin with it
  pub begins_not_below : (i : ℕ) → is_before false l (rest_of texts run i) ≡ true → begins_with l (rest_of texts run i) ≡ false
  begins_not_below i h = false_by (begins_with l (rest_of texts run i)) (λ b. let no = begins_not_before l (rest_of texts run i) b in cc)

  -- a filter that comes behind those of the level doesn't begin with it
  pub begins_not_above : (i : ℕ) → is_before true l (rest_of texts run i) ≡ false → begins_with l (rest_of texts run i) ≡ false
  begins_not_above i h = false_by (begins_with l (rest_of texts run i)) (λ b. let yes = begins_not_behind l (rest_of texts run i) b in cc)

-- what is behind the same level is in the same order
pub tails_ordered : (l : List ℕ) (xs ys fs gs : List (List ℕ)) → xs ≡ l ∷ fs → ys ≡ l ∷ gs → in_order xs ys ≡ true → in_order fs gs ≡ true
tails_ordered l xs ys fs gs e h o = sym (order_tails l fs gs) ∙ ap (λ (zs : List (List ℕ)). in_order (l ∷ fs) zs) (sym h) ∙ ap (λ (zs : List (List ℕ)). in_order zs ys) (sym e) ∙ o

-- the run between two boundaries
module _ (texts : List (List ℕ)) (run : Run) (l : List ℕ) (lo hi : ℕ)
    (low : run.from ≤ lo) (high : hi ≤ run.to)
    (before : (i : ℕ) → run.from ≤ i → i < lo → is_before false l (rest_of texts run i) ≡ true)
    (reached : (i : ℕ) → lo ≤ i → i < run.to → is_before false l (rest_of texts run i) ≡ false)
    (inside : (i : ℕ) → lo ≤ i → i < hi → is_before true l (rest_of texts run i) ≡ true)
    (behind : (i : ℕ) → hi ≤ i → i < run.to → is_before true l (rest_of texts run i) ≡ false) where
  -- between the two ends that were searched each filter begins with the level
  pub begins_inside : (i : ℕ) → lo ≤ i → i < hi → begins_with l (rest_of texts run i) ≡ true
  begins_inside i a b = begins_between l (rest_of texts run i) (reached i a (omega (arith, b, high))) (inside i a b)

  -- between the two ends that were searched stand exactly those of the run that begin with the level
  pub narrowed_which : (i : ℕ) → (nat_le lo i && nat_lt i hi) ≡ (is_within i run && begins_with l (rest_of texts run i))
  narrowed_which i =
      which_between run.from run.to lo hi i (begins_with l (rest_of texts run i)) low high
      (λ a b. begins_not_below texts run l i (before i a b))
      (λ a b. begins_inside i a b)
      (λ a b. begins_not_above texts run l i (behind i a b))

  -- what is behind that level
  pub rest_inside : (end : ℕ) → end ≡ end_of run.end l → (i : ℕ) → lo ≤ i → i < hi → rest_of texts run i ≡ l ∷ levels_behind (Some end) (get_or texts i [])
  rest_inside end is i a b =
      begins_more run.end l (get_or texts i []) (begins_inside i a b)
      ∙ ap (λ (n : ℕ). l ∷ levels_behind (Some n) (get_or texts i [])) (sym is)

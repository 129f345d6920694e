-- Keys in order differ exactly if each is below the next.
use Rattle.std.proofs.Common.{◌≡◌, ℕ, ◌+◌, ◌<◌, Bool, true, false, List, [], ◌∷◌, length, get_or, refl, sym, ap, ◌∙◌, arith}
use Rattle.std.specs.List.{IsDistinct, IsAllAdjacentAnswer}
use Rattle.std.specs.List.Sorted.{IsPermutation, IsSorted}
use Rattle.std.specs.Prelude.{IsTrue, ◌↔◌}
use Rattle.std.specs.Cmp.{IsTotalOrder}
use Rattle.std.specs.Ordering.{eq_by_cmp, is_lt, is_eq, ordering_reverse}
use Rattle.std.specs.declared.cmp.Ordering.{Ordering}
use Rattle.std.specs.declared.cmp.Ordering.TheVariants.{Less, Equal, Greater}
use Rattle.std.proofs.lemmas.Cmp.{eq_by_cmp_equiv}
use Rattle.std.proofs.lemmas.List.Sorted.{IsPermutation-sym}
use Rattle.std.proofs.lemmas.Map.Keys.{sorted_from_all_adjacent, IsDistinct-from_sorted, IsDistinct-IsPermutation, apart_from_distinct}

less_is : (o : Ordering) → is_lt o ≡ true → o ≡ Less
less_is Less h = refl
less_is Equal h = absurd cc
less_is Greater h = absurd cc

-- neither below nor equal is above
above_is : (o : Ordering) → is_lt o ≡ false → is_eq o ≡ false → o ≡ Greater
above_is Less h k = absurd cc
above_is Equal h k = absurd cc
above_is Greater h k = refl

module _ {K : Type 0} (cmp : K → K → Ordering) (o : IsTotalOrder cmp) where
  distinct_if : (ks : List K) → ((k : ℕ) (d : K) → k + 1 < length ks → is_lt (cmp (get_or ks k d) (get_or ks (k + 1) d)) ≡ true) → IsDistinct (eq_by_cmp cmp) ks
  unfolding IsDistinct
  distinct_if [] h = tt
  distinct_if (x ∷ xs) h =
      IsDistinct-from_sorted cmp (x ∷ xs) (sorted_from_all_adjacent o (x ∷ xs) x (λ k less. less_is (cmp (get_or (x ∷ xs) k x) (get_or (x ∷ xs) (k + 1) x)) (h k x less)))

  -- keys that differ once they are in order differed before
  pub distinct_before : (old new : List K) → IsPermutation old new → ((k : ℕ) (d : K) → k + 1 < length new → is_lt (cmp (get_or new k d) (get_or new (k + 1) d)) ≡ true) → IsDistinct (eq_by_cmp cmp) old
  distinct_before old new moved h =
      IsDistinct-IsPermutation (eq_by_cmp cmp) (eq_by_cmp_equiv o).symm new old (IsPermutation-sym old new moved) (distinct_if new h)

  -- in order, one that isn't below the next is equal to it
  pub none_falls : (old new : List K) (k : ℕ) (d : K) → IsPermutation old new → IsSorted cmp new → k + 1 < length new → is_lt (cmp (get_or new k d) (get_or new (k + 1) d)) ≡ false → IsDistinct (eq_by_cmp cmp) old → ⊥
  none_falls old new k d moved up less not_below distinct =
      let x = get_or new k d in
      let y = get_or new (k + 1) d in
      let apart : eq_by_cmp cmp x y ≡ false = apart_from_distinct (eq_by_cmp cmp) new k (k + 1) d (IsDistinct-IsPermutation (eq_by_cmp cmp) (eq_by_cmp_equiv o).symm old new moved distinct) (omega arith) less in
      let above : cmp x y ≡ Greater = above_is (cmp x y) not_below apart in
      let below : cmp y x ≡ Less = o.antisymm y x ∙ ap ordering_reverse above in
      let so : is_lt (cmp y x) ≡ true = ap is_lt below in
      let not_so : is_lt (cmp y x) ≡ false = up k d (omega arith) less in
      let no : true ≡ false = sym so ∙ not_so in
      absurd cc

  -- what the test of the keys in order says of the keys before
  pub distinct_says : (b : Bool) (old new : List K) → IsPermutation old new → IsSorted cmp new → IsAllAdjacentAnswer (λ x y (c : Bool). c ≡ is_lt (cmp x y)) new b → IsTrue b ↔ IsDistinct (eq_by_cmp cmp) old
  distinct_says true old new moved up h = (λ t. distinct_before old new moved (λ k d less. sym (h k d less)), λ t. refl)
  distinct_says false old new moved up h =
      (λ t. absurd (let no : false ≡ true = t in absurd cc), λ distinct. absurd (found old new moved up h distinct))
    where
      found : (old new : List K) → IsPermutation old new → IsSorted cmp new → ((k : ℕ) × (k + 1 < length new) × ((d : K) → false ≡ is_lt (cmp (get_or new k d) (get_or new (k + 1) d)))) → IsDistinct (eq_by_cmp cmp) old → ⊥
      found old [] moved up h distinct = let less = h.1 in absurd (omega arith)
      found old (x ∷ xs) moved up h distinct = none_falls old (x ∷ xs) h.0 x moved up h.1 (sym (h.2 x)) distinct

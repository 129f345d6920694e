-- Keys that an order tells apart differ, as values.
use Rattle.std.proofs.Common.{◌≡◌, ◌≢◌, ℕ, Bool, true, false, List, [], ◌∷◌, map, refl, sym, subst, ◌∙◌, Bor, arith, nat_eq}
use Rattle.std.specs.Prelude.{◌↔◌}
use Rattle.std.specs.Bool.{Decides}
use Rattle.std.specs.Cmp.{unsigned_tied}
use Rattle.std.specs.Cmp.Lexicographic.{slice_cmp}
use Rattle.std.specs.List.{AllByRecursion, IsDistinct}
use Rattle.std.specs.Ordering.{eq_by_cmp, nat_cmp}
use Rattle.std.proofs.lemmas.Bool.Decides.{nat_tests}
use Rattle.std.proofs.lemmas.List.{map-id}
use Rattle.std.proofs.lemmas.Map.Text.{is_eq-slice_cmp}
use Rattle.std.proofs.lemmas.Slice.Eq.{bytes_eq-Decides}
use Rattle.mqtt_records.specs.lists.Distinct.{AllDiffer}

-- a test that answers true exactly if the values are equal
module _ {K V : Type 0} (eq : K → K → Bool) (value : K → V) (same : (x y : K) → Decides (eq x y) (value x ≡ value y)) where
  apart : (b : Bool) (x y : K) → eq x y ≡ b → value x ≢ value y → eq x y ≡ false
  apart true x y e other = absurd (other ((same x y).0 e))
  apart false x y e other = e

  other : (x y : K) → eq x y ≡ false → value x ≢ value y
  other x y e v = absurd (let no : true ≡ false = sym ((same x y).1 v) ∙ e in absurd cc)

  others_differ : (x : K) (ks : List K) → AllByRecursion (λ y. eq x y ≡ false) ks → AllByRecursion (λ y. value x ≢ y) (map value ks)
  others_differ x [] h = tt
  others_differ x (k ∷ ks) h = (other x k h.0, others_differ x ks h.1)

  others_apart : (x : K) (ks : List K) → AllByRecursion (λ y. value x ≢ y) (map value ks) → AllByRecursion (λ y. eq x y ≡ false) ks
  others_apart x [] h = tt
  others_apart x (k ∷ ks) h = (apart (eq x k) x k refl h.0, others_apart x ks h.1)

  -- keys that are told apart differ as values
  pub differ_if : (ks : List K) → IsDistinct eq ks → AllDiffer (map value ks)
  unfolding IsDistinct
  differ_if [] h = tt
  differ_if (k ∷ ks) h = (others_differ k ks h.0, differ_if ks h.1)

  -- keys that differ as values are told apart
  pub distinct_if : (ks : List K) → AllDiffer (map value ks) → IsDistinct eq ks
  unfolding IsDistinct
  distinct_if [] h = tt
  distinct_if (k ∷ ks) h = (others_apart k ks h.0, distinct_if ks h.1)

  -- keys are told apart exactly if they differ as values
  pub differ-distinct : (ks : List K) → IsDistinct eq ks ↔ AllDiffer (map value ks)
  differ-distinct ks = (differ_if ks, distinct_if ks)

equal : (x y : ℕ) → x ≡ y → nat_eq x y ≡ true
equal x y e = grind (arith, nat_tests)

-- comparing numbers decides whether they are equal
pub number_decides : (x y : ℕ) → Decides (eq_by_cmp nat_cmp x y) (x ≡ y)
number_decides x y =
    let tied = unsigned_tied x y in
    (λ e. let yes : nat_eq x y ≡ true = sym tied ∙ e in grind (arith, nat_tests), λ e. tied ∙ equal x y e)

-- so does comparing names
pub name_decides : (x y : Bor (List ℕ)) → Decides (eq_by_cmp (λ a b. slice_cmp nat_cmp a.now b.now) x y) (x.now ≡ y.now)
name_decides x y = subst (λ b. Decides b (x.now ≡ y.now)) (sym (is_eq-slice_cmp x.now y.now)) (bytes_eq-Decides x.now y.now)

-- numbers that are distinct differ
pub numbers_differ : (ns : List ℕ) → IsDistinct (eq_by_cmp nat_cmp) ns ↔ AllDiffer ns
numbers_differ ns = subst (λ ms. IsDistinct (eq_by_cmp nat_cmp) ns ↔ AllDiffer ms) (map-id ns) (differ-distinct (eq_by_cmp nat_cmp) (λ n. n) number_decides ns)

-- so do names
pub names_differ : (ks : List (Bor (List ℕ))) (names : List (List ℕ)) → map (λ k. k.now) ks ≡ names → IsDistinct (eq_by_cmp (λ a b. slice_cmp nat_cmp a.now b.now)) ks ↔ AllDiffer names
names_differ ks names are = subst (λ ns. IsDistinct (eq_by_cmp (λ a b. slice_cmp nat_cmp a.now b.now)) ks ↔ AllDiffer ns) are (differ-distinct _ (λ k. k.now) name_decides ks)

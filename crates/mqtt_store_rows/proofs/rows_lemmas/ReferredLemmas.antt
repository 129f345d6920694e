-- What is found among numbers.
use Rattle.std.proofs.Common.{◌≡◌, ◌≢◌, ℕ, zero, suc, ◌<◌, true, false, List, [], ◌∷◌, length, get_or, refl, sym, subst, inl, inr, arith}
use Rattle.std.specs.Prelude.{Result, Ok, Err, is_ok, IsTrue, ◌==◌}
use Rattle.std.specs.List.{AllByRecursion}
use Rattle.std.specs.List.Sorted.{IsBinarySearchResult, IsNonDecreasing, IsPermutation}
use Rattle.std.specs.Ordering.{nat_cmp}
use Rattle.std.proofs.lemmas.Bool.{cases_lt}
use Rattle.std.proofs.lemmas.Bool.Decides.{nat_tests}
use Rattle.std.proofs.lemmas.List.Sorted.{searched, list_any-IsPermutation}
use Rattle.mqtt_records.specs.state.Contents.{StoredMessage}
use Rattle.mqtt_store_rows.specs.rows.Gives.{is_among}

among_here : (x : ℕ) (xs : List ℕ) (i : ℕ) → i < length xs → get_or xs i 0 ≡ x → is_among x xs ≡ true
among_here x [] i within is = absurd (omega (arith, within))
among_here x (y ∷ xs) zero within is = grind (arith, nat_tests, is)
among_here x (y ∷ xs) (suc i) within is = let rest = among_here x xs i (omega (arith, within)) is in grind (arith, nat_tests, rest)

among_nowhere : (x : ℕ) (xs : List ℕ) → ((k : ℕ) → k < length xs → get_or xs k 0 ≢ x) → is_among x xs ≡ false
among_nowhere x [] none = refl
among_nowhere x (y ∷ xs) none =
    let first : y ≢ x = none 0 (omega arith) in
    let rest = among_nowhere x xs (λ k less. none (suc k) (omega (arith, less))) in
    grind (arith, nat_tests, rest, first)

-- a search by halves finds a number exactly if it is among those that don't fall
pub found_among : (x : ℕ) (xs : List ℕ) (r : Result ℕ ℕ) → IsNonDecreasing xs → IsBinarySearchResult (λ y. nat_cmp y x) xs r → is_ok r ≡ is_among x xs
found_among x xs (Ok i) up search = let at = searched xs x (Ok i) search (λ k j le less. up k j 0 le less) in sym (among_here x xs i at.0 at.1)
found_among x xs (Err i) up search =
    let at = searched xs x (Err i) search (λ k j le less. up k j 0 le less) in
    sym (among_nowhere x xs (λ k less is. elim (cases_lt k i) [
      | inl before ↦ let low = at.1 k before in absurd (omega (arith, low, is))
      | inr behind ↦ let high = at.2 k behind less in absurd (omega (arith, high, is))
    ]))

-- if numbers are put in another order, the same are among them
pub same_referred : (numbers others : List ℕ) (ms : List StoredMessage) → IsPermutation numbers others
    → AllByRecursion (λ m. IsTrue (is_among m.publication numbers)) ms → AllByRecursion (λ m. IsTrue (is_among m.publication others)) ms
same_referred numbers others [] moved all = tt
same_referred numbers others (m ∷ ms) moved all =
    (subst IsTrue (list_any-IsPermutation (λ n. n == m.publication) numbers others moved) all.0, same_referred numbers others ms moved all.1)

-- Numbers to which rows of `kept` refer.
use Rattle.std.proofs.Common.{◌≡◌, ℕ, ◌+◌, ◌<◌, Bool, true, false, List, [], ◌∷◌, ◌++◌, length, take, get_or, refl, sym, subst, arith}
use Rattle.std.specs.Prelude.{IsTrue, ◌==◌, ◌||◌}
use Rattle.std.specs.List.{list_any}
use Rattle.std.specs.List.Sorted.{IsPermutation}
use Rattle.std.proofs.lemmas.Bool.Decides.{nat_tests}
use Rattle.std.proofs.lemmas.List.{take_more}
use Rattle.std.proofs.lemmas.List.Folds.{list_any-append}
use Rattle.std.proofs.lemmas.List.Sorted.{list_any-IsPermutation}
use Rattle.sqlite_value.specs.Order.{Row, column}
use Rattle.mqtt_store_rows.specs.values.Values.{number, IsCounted}
use Rattle.mqtt_store_rows.specs.values.Ones.{one_number}
use Rattle.mqtt_store_rows.specs.rows.Gives.{is_among}
use Rattle.mqtt_store_rows.specs.gathering.Thin.{IsCovered, AreCovered}

or_left : (a b : Bool) → IsTrue a → IsTrue (a || b)
or_left true b here = refl
or_left false b here = absurd cc

or_right : (a b : Bool) → IsTrue b → IsTrue (a || b)
or_right true b here = refl
or_right false b here = here

among_more : (x n : ℕ) (xs : List ℕ) → IsTrue (is_among x xs) → IsTrue (is_among x (xs ++ n ∷ []))
among_more x n [] here = absurd cc
among_more x n (y ∷ xs) here = subst IsTrue (sym (list_any-append (λ m. m == x) (y ∷ xs) (n ∷ []))) (or_left (list_any (λ m. m == x) (y ∷ xs)) _ here)

among_last : (n : ℕ) (xs : List ℕ) → IsTrue (is_among n (xs ++ n ∷ []))
among_last n [] = grind (arith, nat_tests)
among_last n (y ∷ xs) = or_right (y == n) (is_among n (xs ++ n ∷ [])) (among_last n xs)

covered_more : (n : ℕ) (xs : List ℕ) (rows : List Row) → AreCovered xs rows → AreCovered (xs ++ n ∷ []) rows
covered_more n xs [] all = tt
covered_more n xs (row ∷ rows) all = ((λ m holds counted. among_more m n xs (all.0 m holds counted)), covered_more n xs rows all.1)

covered_push : (xs : List ℕ) (rows : List Row) (row : Row) → AreCovered xs rows → IsCovered xs row → AreCovered xs (rows ++ row ∷ [])
covered_push xs [] row all here = (here, tt)
covered_push xs (r ∷ rows) row all here = (all.0, covered_push xs rows row all.1 here)

-- one more row refers to this number
pub covers_next : (xs : List ℕ) (rows : List Row) (i : ℕ) (row : Row) (n : ℕ) → i < length rows → row ≡ get_or rows i row → AreCovered xs (take i rows) → column row 3 ≡ number n
    → AreCovered (xs ++ n ∷ []) (take (i + 1) rows)
covers_next xs rows i row n lt is all holds =
    let here : IsCovered (xs ++ n ∷ []) row = λ m says counted. let same : n ≡ m = one_number (column row 3) n m holds says in subst (λ (k : ℕ). IsTrue (is_among k (xs ++ n ∷ []))) same (among_last n xs) in
    rw (take_more rows i row lt, ← is) (covered_push (xs ++ n ∷ []) (take i rows) row (covered_more n xs (take i rows) all) here)

-- one more row refers to none
pub covers_none : (xs : List ℕ) (rows : List Row) (i : ℕ) (row : Row) → i < length rows → row ≡ get_or rows i row → AreCovered xs (take i rows) → ((n : ℕ) → column row 3 ≡ number n → IsCounted n → ⊥)
    → AreCovered xs (take (i + 1) rows)
covers_none xs rows i row lt is all none =
    rw (take_more rows i row lt, ← is) (covered_push xs (take i rows) row all (λ m says counted. absurd (none m says counted)))

-- in another order the numbers are the same
pub covered_moved : (xs ys : List ℕ) (rows : List Row) → IsPermutation xs ys → AreCovered xs rows → AreCovered ys rows
covered_moved xs ys [] moved all = tt
covered_moved xs ys (row ∷ rows) moved all =
    ((λ m says counted. subst IsTrue (list_any-IsPermutation (λ n. n == m) xs ys moved) (all.0 m says counted)), covered_moved xs ys rows moved all.1)

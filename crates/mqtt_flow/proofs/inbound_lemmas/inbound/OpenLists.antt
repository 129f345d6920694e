-- The open identifiers stay an ascending list.
use Rattle.std.proofs.Common.{◌≡◌, ℕ, zero, suc, ◌+◌, ◌<◌, ◌≤◌, Bool, true, false, not, List, [], ◌∷◌, length, nat_eq, nat_lt, ⊎_elim, refl, arith, get_or, if◌then◌else◌}
use Rattle.std.specs.List.{insert}
use Rattle.std.specs.List.Sorted.{IsStrictlyIncreasing}
use Rattle.std.proofs.lemmas.List.Kept.{IsStrictlyIncreasing-filter}
use Rattle.std.proofs.lemmas.Bool.Decides.{nat_tests}
use Rattle.mqtt_base.specs.declared.limits.TheConstants.{OPEN_LIMIT}
use Rattle.mqtt_flow.specs.declared.inbound.inflow.Published.{Published}
use Rattle.mqtt_flow.specs.declared.inbound.inflow.Published.TheVariants.{New, Again, Over}
use Rattle.mqtt_flow.specs.inbound.Identifiers.{is_among, ids_with, ids_without}
use Rattle.mqtt_flow.specs.inbound.Inbound.{answer_to, ids_on, open_after, IsOpenList}
use Rattle.mqtt_flow.specs.inbound.Inflow.{BelongsAt}
use Rattle.mqtt_flow.proofs.inbound_lemmas.Identifiers.{test_cases, length-ids_with, length-ids_without}

-- each number is at least the bound, and above the one before it
abbrev AscendsFrom : ℕ → List ℕ → Type 0
AscendsFrom least [] = Unit {0}
AscendsFrom least (x ∷ xs) = (least ≤ x) × AscendsFrom (suc x) xs

rising_tail : (x : ℕ) (xs : List ℕ) → IsStrictlyIncreasing (x ∷ xs) → IsStrictlyIncreasing xs
rising_tail x xs h = λ k lt. let e : suc k + 1 ≡ suc (k + 1) = omega arith in rw e at (h (suc k) (omega arith))

ascends : (least x : ℕ) (xs : List ℕ) → least ≤ x → IsStrictlyIncreasing (x ∷ xs) → AscendsFrom least (x ∷ xs)
ascends least x [] le h = (le, tt)
ascends least x (y ∷ ys) le h = (le, ascends (suc x) y ys (omega (arith, h 0 (omega arith))) (rising_tail x (y ∷ ys) h))

ascends_all : (xs : List ℕ) → IsStrictlyIncreasing xs → AscendsFrom 0 xs
ascends_all [] h = tt
ascends_all (x ∷ xs) h = ascends 0 x xs (omega arith) h

rises : (least : ℕ) (xs : List ℕ) → AscendsFrom least xs → IsStrictlyIncreasing xs
rises least [] h = λ k lt. absurd (omega arith)
rises least (x ∷ []) h = λ k lt. absurd (omega arith)
rises least (x ∷ y ∷ ys) h = rises_at x y ys h.1.0 (rises (suc x) (y ∷ ys) h.1)
  where
    rises_at : (x y : ℕ) (ys : List ℕ) → suc x ≤ y → IsStrictlyIncreasing (y ∷ ys) → (k : ℕ) → k + 1 < length (x ∷ y ∷ ys) → get_or (x ∷ y ∷ ys) k 0 < get_or (x ∷ y ∷ ys) (k + 1) 0
    rises_at x y ys le r zero lt = omega arith
    rises_at x y ys le r (suc k) lt = let e : suc k + 1 ≡ suc (k + 1) = omega arith in rw e (r k (omega arith))

-- rows that are in the order of their keys, if the key is the row: the same lists
abbrev pub IsAbove : ℕ → List ℕ → Type 0
IsAbove n [] = Unit {0}
IsAbove n (x ∷ xs) = (n < x) × IsAbove n xs

abbrev pub IsAscending : List ℕ → Type 0
IsAscending [] = Unit {0}
IsAscending (x ∷ xs) = IsAbove x xs × IsAscending xs

from_above : (n : ℕ) (xs : List ℕ) → IsAbove n xs → IsAscending xs → AscendsFrom (suc n) xs
from_above n [] a h = tt
from_above n (x ∷ xs) a h = let above = a.0 in (omega arith, from_above x xs h.0 h.1)

above_from : (least n : ℕ) (xs : List ℕ) → n < least → AscendsFrom least xs → IsAbove n xs
above_from least n [] lt h = tt
above_from least n (x ∷ xs) lt h = let above = h.0 in (omega arith, above_from (suc x) n xs (omega arith) h.1)

ascending_from : (least : ℕ) (xs : List ℕ) → AscendsFrom least xs → IsAscending xs
ascending_from least [] h = tt
ascending_from least (x ∷ xs) h = (above_from (suc x) x xs (omega arith) h.1, ascending_from (suc x) xs h.1)

-- identifiers that ascend strictly increase
pub strictly_increasing : (xs : List ℕ) → IsAscending xs → IsStrictlyIncreasing xs
strictly_increasing [] h = rises 0 [] tt
strictly_increasing (x ∷ xs) h = rises 0 (x ∷ xs) (omega arith, from_above x xs h.0 h.1)

-- identifiers that strictly increase ascend
pub is_ascending : (xs : List ℕ) → IsStrictlyIncreasing xs → IsAscending xs
is_ascending xs h = ascending_from 0 xs (ascends_all xs h)

ascends-ids_with : (least id : ℕ) (ids : List ℕ) → least ≤ id → is_among id ids ≡ false → AscendsFrom least ids → AscendsFrom least (ids_with id ids)
ascends-ids_with least id [] le missing h = (le, tt)
ascends-ids_with least id (x ∷ xs) le missing h = ⊎_elim
    (λ (b : nat_lt id x ≡ true). let lt : id < x = grind (arith, nat_tests) in rw b (le, (lt, h.1)))
    (λ (b : nat_lt id x ≡ false).
    let above : suc x ≤ id = grind (arith, nat_tests) in
    let rest : is_among id xs ≡ false = grind (arith, nat_tests) in
    rw b (h.0, ascends-ids_with (suc x) id xs above rest h.1))
    (test_cases (nat_lt id x))

-- a list with room takes one more identifier in its place
pub lawful-ids_with : (id : ℕ) (ids : List ℕ) → is_among id ids ≡ false → length ids < OPEN_LIMIT → IsOpenList ids → IsOpenList (ids_with id ids)
lawful-ids_with id ids missing room h = record {
  ascending = rises 0 (ids_with id ids) (ascends-ids_with 0 id ids (omega arith) missing (ascends_all ids h.ascending));
  within = omega (arith, length-ids_with id ids);
}

-- an insertion that may have failed
pub lawful_insert : (done : Bool) (id place : ℕ) (ids : List ℕ) → BelongsAt id ids place → length ids < OPEN_LIMIT → IsOpenList ids → IsOpenList (if done then insert ids place id else ids)
lawful_insert true id place ids b room h = rw b.inserted (lawful-ids_with id ids b.is_missing room h)
lawful_insert false id place ids b room h = h

-- a list gives one up
pub lawful-ids_without : (id : ℕ) (ids : List ℕ) → IsOpenList ids → IsOpenList (ids_without id ids)
lawful-ids_without id ids h = record {
  ascending = IsStrictlyIncreasing-filter (λ other. not (nat_eq other id)) ids h.ascending;
  within = length-ids_without id ids h.within;
}

lawful-ids_on : (d : Published) (id : ℕ) (ids : List ℕ) → answer_to id ids ≡ d → IsOpenList ids → IsOpenList (ids_on d id ids)
lawful-ids_on New id ids e h =
    let missing : is_among id ids ≡ false = grind arith in
    let room : length ids < OPEN_LIMIT = grind (arith, nat_tests) in
    lawful-ids_with id ids missing room h
lawful-ids_on Again id ids e h = h
lawful-ids_on Over id ids e h = h

-- a PUBLISH leaves the open identifiers in order
pub lawful-open_after : (id : ℕ) (ids : List ℕ) → IsOpenList ids → IsOpenList (open_after id ids)
lawful-open_after id ids h = lawful-ids_on (answer_to id ids) id ids refl h

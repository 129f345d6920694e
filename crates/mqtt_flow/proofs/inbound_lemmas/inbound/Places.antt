-- Where an identifier stands in an ascending list.
use Rattle.std.proofs.Common.{◌≡◌, ℕ, zero, suc, ◌<◌, ◌≤◌, true, false, List, [], ◌∷◌, length, nat_lt, refl, arith, get_or, ⊎_elim, Result, Ok, Err}
use Rattle.std.specs.Prelude.{IfOk, IfErr}
use Rattle.std.specs.List.{insert, remove}
use Rattle.std.specs.List.Sorted.{IsStrictlyIncreasing, IsBinarySearchResult}
use Rattle.std.specs.Ordering.{nat_cmp}
use Rattle.std.proofs.lemmas.List.Sorted.{searched}
use Rattle.std.proofs.lemmas.Map.Keys.{below_from_sorted, sorted_from_strictly_increasing}
use Rattle.std.proofs.lemmas.Bool.Decides.{nat_tests}
use Rattle.mqtt_flow.specs.inbound.Identifiers.{is_among, ids_with, ids_without}
use Rattle.mqtt_flow.specs.inbound.Inflow.{StandsAt, BelongsAt}
use Rattle.mqtt_flow.proofs.inbound_lemmas.Identifiers.{test_cases}

-- the identifiers before a place are below, those from it on above
pub record IsBetween (id : ℕ) (ids : List ℕ) (place : ℕ) : Type 0 where
  pub below : (k : ℕ) → k < place → get_or ids k 0 < id
  pub above : (k : ℕ) → place ≤ k → k < length ids → id < get_or ids k 0

tail_between : (id other place : ℕ) (ids : List ℕ) → IsBetween id (other ∷ ids) (suc place) → IsBetween id ids place
tail_between id other place ids h = record {
  below = λ k lt. h.below (suc k) (omega arith);
  above = λ k le lt. h.above (suc k) (omega arith) (omega arith);
}

tail_above : (id other : ℕ) (ids : List ℕ) → IsBetween id (other ∷ ids) 0 → IsBetween id ids 0
tail_above id other ids h = record {
  below = λ k lt. absurd (omega arith);
  above = λ k le lt. h.above (suc k) (omega arith) (omega arith);
}

missing : (id place : ℕ) (ids : List ℕ) → IsBetween id ids place → is_among id ids ≡ false
missing id place [] h = refl
missing id zero (other ∷ ids) h =
    let r = missing id zero ids (tail_above id other ids h) in
    let lt : id < other = h.above 0 (omega arith) (omega arith) in
    grind (arith, nat_tests, r)
missing id (suc place) (other ∷ ids) h =
    let r = missing id place ids (tail_between id other place ids h) in
    let lt : other < id = h.below 0 (omega arith) in
    grind (arith, nat_tests, r)

kept : (id : ℕ) (ids : List ℕ) → is_among id ids ≡ false → ids_without id ids ≡ ids
kept id [] h = refl
kept id (other ∷ ids) h = let r = kept id ids in grind (arith, nat_tests, r)

inserted : (id place : ℕ) (ids : List ℕ) → place ≤ length ids → IsBetween id ids place → insert ids place id ≡ ids_with id ids
inserted id zero [] le h = refl
inserted id (suc place) [] le h = absurd (omega arith)
inserted id zero (other ∷ ids) le h =
    let lt : id < other = h.above 0 (omega arith) (omega arith) in
    grind (arith, nat_tests)
inserted id (suc place) (other ∷ ids) le h =
    let r = inserted id place ids (omega arith) (tail_between id other place ids h) in
    let lt : other < id = h.below 0 (omega arith) in
    grind (arith, nat_tests, r)

-- an identifier between its neighbours belongs there
pub belongs : (id place : ℕ) (ids : List ℕ) → place ≤ length ids → IsBetween id ids place → BelongsAt id ids place
belongs id place ids le h = record {
  in_range = le;
  is_missing = missing id place ids h;
  inserted = inserted id place ids le h;
  kept = kept id ids (missing id place ids h);
}

-- the identifiers before a place are below the one that stands there, those after it above
pub record IsAmong (id : ℕ) (ids : List ℕ) (place : ℕ) : Type 0 where
  pub here : get_or ids place 0 ≡ id
  pub below : (k : ℕ) → k < place → get_or ids k 0 < id
  pub above : (k : ℕ) → place < k → k < length ids → id < get_or ids k 0

tail_among : (id other place : ℕ) (ids : List ℕ) → IsAmong id (other ∷ ids) (suc place) → IsAmong id ids place
tail_among id other place ids h = record {
  here = h.here;
  below = λ k lt. h.below (suc k) (omega arith);
  above = λ k le lt. h.above (suc k) (omega arith) (omega arith);
}

tail_of_it : (id other : ℕ) (ids : List ℕ) → IsAmong id (other ∷ ids) 0 → IsBetween id ids 0
tail_of_it id other ids h = record {
  below = λ k lt. absurd (omega arith);
  above = λ k le lt. h.above (suc k) (omega arith) (omega arith);
}

there : (id place : ℕ) (ids : List ℕ) → place < length ids → IsAmong id ids place → is_among id ids ≡ true
there id place [] le h = absurd (omega arith)
there id zero (other ∷ ids) le h = let e : other ≡ id = h.here in grind (arith, nat_tests)
there id (suc place) (other ∷ ids) le h =
    let r = there id place ids (omega arith) (tail_among id other place ids h) in
    grind (arith, nat_tests, r)

removed : (id place : ℕ) (ids : List ℕ) → place < length ids → IsAmong id ids place → remove ids place ≡ ids_without id ids
removed id place [] le h = absurd (omega arith)
removed id zero (other ∷ ids) le h =
    let e : other ≡ id = h.here in
    let r = kept id ids (missing id 0 ids (tail_of_it id other ids h)) in
    grind (arith, nat_tests, r)
removed id (suc place) (other ∷ ids) le h =
    let r = removed id place ids (omega arith) (tail_among id other place ids h) in
    let lt : other < id = h.below 0 (omega arith) in
    grind (arith, nat_tests, r)

-- an identifier found at a place stands there
pub stands : (id place : ℕ) (ids : List ℕ) → place < length ids → IsAmong id ids place → StandsAt id ids place
stands id place ids le h = record {
  in_range = le;
  is_there = there id place ids le h;
  removed = removed id place ids le h;
}

-- what `binary_search` answers on an ascending list
abbrev pub OfPlace : ℕ → List ℕ → Result ℕ ℕ → Type 0
OfPlace id ids (Ok place) = StandsAt id ids place
OfPlace id ids (Err place) = BelongsAt id ids place

increases : (ids : List ℕ) → IsStrictlyIncreasing ids → (i j : ℕ) → i < j → j < length ids → get_or ids i 0 < get_or ids j 0
increases ids h i j lt range = below_from_sorted ids i j 0 (sorted_from_strictly_increasing ids h) lt range

never_falls : (ids : List ℕ) → IsStrictlyIncreasing ids → (i j : ℕ) → i ≤ j → j < length ids → get_or ids i 0 ≤ get_or ids j 0
never_falls ids h i j le range = ⊎_elim
    (λ (b : nat_lt i j ≡ true). let lt : i < j = grind (arith, nat_tests) in omega (arith, increases ids h i j lt range))
    (λ (b : nat_lt i j ≡ false). let e : i ≡ j = grind (arith, nat_tests) in rw e (omega arith))
    (test_cases (nat_lt i j))

-- a binary search finds where an identifier stands, or where it belongs
pub placed : (id : ℕ) (ids : List ℕ) (r : Result ℕ ℕ) → IsStrictlyIncreasing ids → IsBinarySearchResult (λ y. nat_cmp y id) ids r → OfPlace id ids r
placed id ids (Ok place) h s =
    let q = searched ids id (Ok place) s (never_falls ids h) in
    stands id place ids q.0 (record {
      here = q.1;
      below = λ k lt. rw (← q.1) (increases ids h k place lt q.0);
      above = λ k lt range. rw (← q.1) (increases ids h place k lt range);
    })
placed id ids (Err place) h s =
    let q = searched ids id (Err place) s (never_falls ids h) in
    belongs id place ids q.0 (record { below = q.1; above = q.2 })

-- if it finds one, that is where it stands
pub found : (id : ℕ) (ids : List ℕ) (r : Result ℕ ℕ) → OfPlace id ids r → IfOk r (StandsAt id ids)
found id ids (Ok place) h = h
found id ids (Err place) h = tt

-- if it finds none, that is where it belongs
pub missed : (id : ℕ) (ids : List ℕ) (r : Result ℕ ℕ) → OfPlace id ids r → IfErr r (BelongsAt id ids)
missed id ids (Ok place) h = tt
missed id ids (Err place) h = h

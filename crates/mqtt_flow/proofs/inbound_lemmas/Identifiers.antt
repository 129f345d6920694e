-- Lists of identifiers: what is among them after a step, and the lowest that is free.
use Rattle.std.proofs.Common.{◌≡◌, ◌⊎◌, inl, inr, ⊎_elim, ℕ, zero, suc, ◌<◌, ◌≤◌, Bool, true, false, cond, not, ◌||◌, List, [], ◌∷◌, ◌++◌, length, nat_eq, refl, arith, eq-eqb, eqb-true, ◌≢◌, nat_le}
use Rattle.std.proofs.lemmas.List.Sums.{length-filter, count_by-le-length}
use Rattle.std.proofs.lemmas.Bool.Decides.{nat_tests}
use Rattle.mqtt_flow.specs.declared.inbound.inflow.Published.{Published}
use Rattle.mqtt_flow.specs.declared.inbound.inflow.Published.TheVariants.{New, Again, Over}
use Rattle.mqtt_base.specs.declared.limits.TheConstants.{OPEN_LIMIT}
use Rattle.mqtt_flow.specs.inbound.Identifiers.{is_among, ids_with, ids_without, lowest_from, free_identifier}
use Rattle.mqtt_flow.specs.inbound.Inbound.{answer_to, ids_on, open_after}

-- not again, and no room
abbrev pub is_full : Published → Bool
is_full New = false
is_full Again = false
is_full Over = true

-- a test is met or not
pub test_cases : (b : Bool) → (b ≡ true) ⊎ (b ≡ false)
test_cases true = inl refl
test_cases false = inr refl

-- an identifier equals itself
pub same_id : (i : ℕ) → nat_eq i i ≡ true
same_id i = eq-eqb i i refl

-- identifiers that differ are not equal
pub not_same : (i j : ℕ) → i ≢ j → nat_eq i j ≡ false
not_same i j h = ⊎_elim (λ (e : nat_eq i j ≡ true). absurd (h (eqb-true i j e))) (λ (e : nat_eq i j ≡ false). e) (test_cases (nat_eq i j))

-- with one more identifier, that one and those before are open
pub is_among-ids_with : (i j : ℕ) (ids : List ℕ) → is_among i (ids_with j ids) ≡ (is_among i ids || nat_eq i j)
is_among-ids_with i j [] = grind (arith, nat_tests)
is_among-ids_with i j (x ∷ xs) = let h = is_among-ids_with i j xs in grind (arith, nat_tests, h)

-- with one more at the end, that one and those before are there
pub is_among-push : (i j : ℕ) (ids : List ℕ) → is_among i (ids ++ j ∷ []) ≡ (is_among i ids || nat_eq i j)
is_among-push i j [] = grind (arith, nat_tests)
is_among-push i j (x ∷ xs) = let h = is_among-push i j xs in grind (arith, nat_tests, h)

-- one more identifier is one more
pub length-ids_with : (i : ℕ) (ids : List ℕ) → length (ids_with i ids) ≡ suc (length ids)
length-ids_with i [] = refl
length-ids_with i (x ∷ xs) = let h = length-ids_with i xs in grind (arith, nat_tests, h)

is_among-ids_on_same : (d : Published) (i : ℕ) (ids : List ℕ) → answer_to i ids ≡ d → is_full d ≡ false → is_among i (ids_on d i ids) ≡ true
is_among-ids_on_same New i ids e h = let s = same_id i in grind (arith, nat_tests, is_among-ids_with)
is_among-ids_on_same Again i ids e h = grind (arith, nat_tests)
is_among-ids_on_same Over i ids e h = absurd (cc)

-- a PUBLISH that finds room leaves its identifier open
pub is_among-open_after_same : (i : ℕ) (ids : List ℕ) → is_full (answer_to i ids) ≡ false → is_among i (open_after i ids) ≡ true
is_among-open_after_same i ids e = is_among-ids_on_same (answer_to i ids) i ids refl e

is_among-ids_on_other : (d : Published) (i j : ℕ) (ids : List ℕ) → nat_eq i j ≡ false → is_among i (ids_on d j ids) ≡ is_among i ids
is_among-ids_on_other New i j ids e = grind (arith, nat_tests, is_among-ids_with)
is_among-ids_on_other Again i j ids e = refl
is_among-ids_on_other Over i j ids e = refl

-- and the others as they were
pub is_among-open_after_other : (i j : ℕ) (ids : List ℕ) → nat_eq i j ≡ false → is_among i (open_after j ids) ≡ is_among i ids
is_among-open_after_other i j ids e = is_among-ids_on_other (answer_to j ids) i j ids e

length-ids_on : (d : Published) (i : ℕ) (ids : List ℕ) → answer_to i ids ≡ d → length ids ≤ OPEN_LIMIT → length (ids_on d i ids) ≤ OPEN_LIMIT
length-ids_on New i ids e h = grind (arith, nat_tests, length-ids_with)
length-ids_on Again i ids e h = h
length-ids_on Over i ids e h = h

-- never are more identifiers open than may be
pub length-open_after : (i : ℕ) (ids : List ℕ) → length ids ≤ OPEN_LIMIT → length (open_after i ids) ≤ OPEN_LIMIT
length-open_after i ids h = length-ids_on (answer_to i ids) i ids refl h

-- behind a PUBREL its identifier is not open
pub is_among-ids_without_same : (i : ℕ) (ids : List ℕ) → is_among i (ids_without i ids) ≡ false
is_among-ids_without_same i [] = refl
is_among-ids_without_same i (x ∷ xs) = let h = is_among-ids_without_same i xs in grind (arith, nat_tests, h)

-- and the others are as they were
pub is_among-ids_without_other : (i j : ℕ) (ids : List ℕ) → nat_eq i j ≡ false → is_among i (ids_without j ids) ≡ is_among i ids
is_among-ids_without_other i j [] e = refl
is_among-ids_without_other i j (x ∷ xs) e = let h = is_among-ids_without_other i j xs e in grind (arith, nat_tests, h)

-- a PUBREL leaves no more open than may be
pub length-ids_without : (i : ℕ) (ids : List ℕ) → length ids ≤ OPEN_LIMIT → length (ids_without i ids) ≤ OPEN_LIMIT
length-ids_without i ids h = omega (arith, length-filter (λ j. not (nat_eq j i)) ids, count_by-le-length (λ j. not (nat_eq j i)) ids)

-- the lowest free identifier is free
abbrev at_least : ℕ → List ℕ → ℕ
at_least i [] = 0
at_least i (x ∷ xs) = cond (nat_le i x) (suc (at_least i xs)) (at_least i xs)

at_least-length : (i : ℕ) (used : List ℕ) → at_least i used ≤ length used
at_least-length i [] = omega arith
at_least-length i (x ∷ xs) = let r = at_least-length i xs in grind (arith, nat_tests, r)

none_from : (i : ℕ) (used : List ℕ) → at_least i used ≤ 0 → is_among i used ≡ false
none_from i [] h = refl
none_from i (x ∷ xs) h = let r = none_from i xs in grind (arith, nat_tests, r)

fewer_ids : (i : ℕ) (used : List ℕ) → at_least (suc i) used ≤ at_least i used
fewer_ids i [] = omega arith
fewer_ids i (x ∷ xs) = let r = fewer_ids i xs in grind (arith, nat_tests, r)

fewer_from : (i : ℕ) (used : List ℕ) → is_among i used ≡ true → at_least (suc i) used < at_least i used
fewer_from i [] h = absurd (cc)
fewer_from i (x ∷ xs) h = let r = fewer_from i xs in let q = fewer_ids i xs in grind (arith, nat_tests, r, q)

-- counting up from an identifier ends at one that is not used
pub lowest_free : (k i : ℕ) (used : List ℕ) → at_least i used ≤ k → is_among (lowest_from k i used) used ≡ false
lowest_free zero i used h = none_from i used h
lowest_free (suc k) i used h =
    ⊎_elim
    (λ (e : is_among i used ≡ true). rw e (lowest_free k (suc i) used (omega (arith, fewer_from i used e))))
    (λ (e : is_among i used ≡ false). rw e e)
    (test_cases (is_among i used))

-- the identifier that is chosen is not used
pub free_is_free : (used : List ℕ) → is_among (free_identifier used) used ≡ false
free_is_free used = lowest_free (length used) 1 used (at_least-length 1 used)

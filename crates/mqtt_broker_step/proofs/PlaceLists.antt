-- Lists of places: their order and their room, as they change.
use Rattle.std.proofs.Common.{◌≡◌, ℕ, zero, suc, ◌+◌, ◌-◌, ◌<◌, ◌≤◌, Bool, true, false, cond, not, ◌&&◌, List, [], ◌∷◌, ◌++◌, length, get_or, take, nat_eq, nat_le, refl, ap, sym, subst, ◌∙◌, arith, Result, Ok, Err}
use Rattle.std.specs.Prelude.{Some, slice_get, is_ok, IfSome}
use Rattle.std.specs.Result.{result_ok}
use Rattle.std.specs.List.{insert, remove}
use Rattle.std.specs.List.Sorted.{IsStrictlyIncreasing, IsBinarySearchResult}
use Rattle.std.specs.Ordering.{nat_cmp}
use Rattle.std.proofs.lemmas.Bool.{le-leb}
use Rattle.std.proofs.lemmas.Bool.Decides.{nat_tests}
use Rattle.std.proofs.lemmas.List.{take_at, length_push, length-take}
use Rattle.std.proofs.lemmas.List.Edits.{length-remove}
use Rattle.std.proofs.lemmas.List.Sorted.{searched}
use Rattle.mqtt_flow.specs.inbound.Identifiers.{is_among, ids_without}
use Rattle.mqtt_flow.proofs.inbound_lemmas.inbound.Places.{OfPlace, placed}
use Rattle.mqtt_records.specs.lists.Order.{IsAbove, last_row}
use Rattle.mqtt_records.proofs.lists_lemmas.OrderLemmas.{above_less, ascending_rises, filter-ascending, last-read, remove-length}
use Rattle.mqtt_broker_step.specs.Places.{AreAscending, IsIndexOf, IsKept, room_for, has_room_behind, has_room, with_inserted, without_last}

abbrev own : ℕ → ℕ
own place = place

-- ---- order

above_push : (n place : ℕ) (xs : List ℕ) → IsAbove own n xs → n < place → IsAbove own n (xs ++ place ∷ [])
above_push n place [] up less = (less, tt)
above_push n place (x ∷ xs) up less = (up.0, above_push n place xs up.1 less)

above_end : (n place : ℕ) (xs : List ℕ) → IsAbove own n (xs ++ place ∷ []) → n < place
above_end n place [] up = up.0
above_end n place (x ∷ xs) up = above_end n place xs up.1

behind_last : (place last : ℕ) (xs : List ℕ) → AreAscending xs → last_row own xs ≡ Some last → last < place → AreAscending (xs ++ place ∷ [])
behind_last place last [] up found less = absurd cc
behind_last place last (x ∷ []) up found less = let is : x ≡ last = cc in let more : x < place = omega (arith, is, less) in ((more, tt), (tt, tt))
behind_last place last (x ∷ y ∷ ys) up found less =
    let rest : AreAscending ((y ∷ ys) ++ place ∷ []) = behind_last place last (y ∷ ys) up.1 found less in
    let next : x < y = up.0.0 in
    let behind : y < place = above_end y place ys rest.0 in
    let more : x < place = omega (arith, next, behind) in
    (above_push x place (y ∷ ys) up.0 more, rest)

-- a place above the last one goes behind all
pub ascending-push : (place last : ℕ) (xs : List ℕ) → AreAscending xs → slice_get xs (length xs - 1) ≡ Some last → last < place → AreAscending (xs ++ place ∷ [])
ascending-push place last xs up found less = behind_last place last xs up (sym (last-read own xs) ∙ found) less

above_take : (low n : ℕ) (xs : List ℕ) → IsAbove own low xs → IsAbove own low (take n xs)
above_take low zero xs up = tt
above_take low (suc n) [] up = tt
above_take low (suc n) (x ∷ xs) up = (up.0, above_take low n xs up.1)

-- the first places of ascending ones ascend
pub ascending-take : (n : ℕ) (xs : List ℕ) → AreAscending xs → AreAscending (take n xs)
ascending-take zero xs up = tt
ascending-take (suc n) [] up = tt
ascending-take (suc n) (x ∷ xs) up = (above_take x n xs up.0, ascending-take n xs up.1)

above_remove : (low i : ℕ) (xs : List ℕ) → IsAbove own low xs → IsAbove own low (remove xs i)
above_remove low zero [] up = tt
above_remove low (suc i) [] up = tt
above_remove low zero (x ∷ xs) up = up.1
above_remove low (suc i) (x ∷ xs) up = (up.0, above_remove low i xs up.1)

-- ascending places ascend without the one at an index
pub ascending-remove : (i : ℕ) (xs : List ℕ) → AreAscending xs → AreAscending (remove xs i)
ascending-remove zero [] up = tt
ascending-remove (suc i) [] up = tt
ascending-remove zero (x ∷ xs) up = up.1
ascending-remove (suc i) (x ∷ xs) up = (above_remove x i xs up.0, ascending-remove i xs up.1)

-- ascending places ascend without a given one
pub ascending-without : (place : ℕ) (xs : List ℕ) → AreAscending xs → AreAscending (ids_without place xs)
ascending-without place xs up = filter-ascending own (λ other. not (nat_eq other place)) xs up

-- ascending is each below the next
increases : (xs : List ℕ) → AreAscending xs → IsStrictlyIncreasing xs
increases [] up k less = absurd (omega (arith, less))
increases (x ∷ []) up k less = absurd (omega (arith, less))
increases (x ∷ y ∷ ys) up zero less = up.0.0
increases (x ∷ y ∷ ys) up (suc k) less =
    let next : suc k + 1 ≡ suc (k + 1) = omega arith in
    rw next (increases (y ∷ ys) up.1 k (omega (arith, less)))

-- places of which each is below the next ascend
pub ascending : (xs : List ℕ) → IsStrictlyIncreasing xs → AreAscending xs
ascending [] next = tt
ascending (x ∷ []) next = (tt, tt)
ascending (x ∷ y ∷ ys) next =
    let rest : AreAscending (y ∷ ys) = ascending (y ∷ ys) (λ k less. let on : suc k + 1 ≡ suc (k + 1) = omega arith in rw on at (next (suc k) (omega (arith, less)))) in
    let first : x < y = next 0 (omega arith) in
    ((first, above_less own x y ys first rest.0), rest)

-- ---- what is found

-- a place behind all is not among them
beyond : (place : ℕ) (xs : List ℕ) → AreAscending (xs ++ place ∷ []) → is_among place xs ≡ false
beyond place [] up = refl
beyond place (x ∷ xs) up =
    let less : x < place = above_end x place xs up.0 in
    let rest = beyond place xs up.1 in
    grind (arith, nat_tests, rest)

-- a place above the last of ascending ones is not among them
pub not_among : (place last : ℕ) (xs : List ℕ) → AreAscending xs → slice_get xs (length xs - 1) ≡ Some last → last < place → is_among place xs ≡ false
not_among place last xs up found less = beyond place xs (ascending-push place last xs up found less)

told : (place : ℕ) (xs : List ℕ) (r : Result ℕ ℕ) → OfPlace place xs r → is_ok r ≡ is_among place xs
told place xs (Ok i) at = sym at.is_there
told place xs (Err i) at = sym at.is_missing

-- a search by halves finds a place exactly if it is among ascending ones
pub found_among : (place : ℕ) (xs : List ℕ) (r : Result ℕ ℕ) → AreAscending xs → IsBinarySearchResult (λ y. nat_cmp y place) xs r → is_ok r ≡ is_among place xs
found_among place xs r up search = told place xs r (placed place xs r (increases xs up) search)

-- the index that a search by halves finds is where the place stands, and nowhere else
pub index_found : (place : ℕ) (xs : List ℕ) (r : Result ℕ ℕ) → AreAscending xs → IsBinarySearchResult (λ y. nat_cmp y place) xs r → IfSome (result_ok r) (IsIndexOf place xs)
index_found place xs (Ok i) up search =
    let there = searched xs place (Ok i) search (λ k j le less. ascending_rises own xs up k j 0 le less) in
    record { stands = placed place xs (Ok i) (increases xs up) search; here = there.1 }
index_found place xs (Err i) up search = tt

-- if a place is not among others, nothing leaves without it
pub without-missing : (place : ℕ) (xs : List ℕ) → is_among place xs ≡ false → ids_without place xs ≡ xs
without-missing place [] missing = refl
without-missing place (x ∷ xs) missing = let rest = without-missing place xs in grind (arith, nat_tests, rest)

-- ---- edits, and what takes them back

-- to put a place at the end and take the last one off changes nothing
pub popped : (place : ℕ) (xs : List ℕ) → without_last (xs ++ place ∷ []) ≡ xs
popped place xs =
    let count = length_push xs place in
    take_at xs (place ∷ []) (length (xs ++ place ∷ []) - 1) (omega (arith, count))

insert_removed : (i place : ℕ) (xs : List ℕ) → i < length xs → get_or xs i 0 ≡ place → insert (remove xs i) i place ≡ xs
insert_removed i place [] some here = absurd (omega (arith, some))
insert_removed zero place (x ∷ xs) some here = ap (λ (y : ℕ). y ∷ xs) (sym here)
insert_removed (suc i) place (x ∷ xs) some here = ap (λ (ys : List ℕ). x ∷ ys) (insert_removed i place xs (omega (arith, some)) here)

-- a place that was taken out is put back at its index, if there is room
pub put_back : (place i : ℕ) (xs : List ℕ) → IsIndexOf place xs i → has_room_behind (length xs - 1) ≡ true → with_inserted i place (ids_without place xs) ≡ xs
put_back place i xs at room =
    let some : i < length xs = at.stands.in_range in
    let count = length-remove xs i some in
    let left : length (remove xs i) ≡ length xs - 1 = omega (arith, count) in
    let within : nat_le i (length (remove xs i)) ≡ true = le-leb i (length (remove xs i)) (omega (arith, count, some)) in
    let roomy : has_room (remove xs i) ≡ true = ap has_room_behind left ∙ room in
    let both : (nat_le i (length (remove xs i)) && has_room (remove xs i)) ≡ true = ap (λ (b : Bool). b && has_room (remove xs i)) within ∙ roomy in
    ap (with_inserted i place) (sym at.stands.removed)
    ∙ (ap (λ (b : Bool). cond b (insert (remove xs i) i place) (remove xs i)) both ∙ insert_removed i place xs some at.here)

-- behind the last place there is none to remove
pub remove-behind : (i : ℕ) (xs : List ℕ) → length xs ≤ i → remove xs i ≡ xs
remove-behind zero [] behind = refl
remove-behind (suc i) [] behind = refl
remove-behind zero (x ∷ xs) behind = absurd (omega (arith, behind))
remove-behind (suc i) (x ∷ xs) behind = ap (λ (ys : List ℕ). x ∷ ys) (remove-behind i xs (omega (arith, behind)))

-- ---- room

-- more places have no less room
pub room_up : (m n : ℕ) → m ≤ n → room_for m ≤ room_for n
room_up m n le = grind (arith, nat_tests)

-- with room for one more, the room is that for one more
pub room_next : (n : ℕ) → has_room_behind n ≡ true → room_for (n + 1) ≤ room_for n
room_next n room = grind (arith, nat_tests)

-- if so many places have room for one more, there are fewer than the room that they have
pub room_less : (n room : ℕ) → has_room_behind n ≡ true → room_for n ≤ room → n < room
room_less n room roomy le = grind (arith, nat_tests)

-- ---- what is remembered, as they change

-- what is remembered of places holds of the first of them too
pub kept-take : (ascends : Bool) (n : ℕ) (xs ys : List ℕ) (room left : ℕ) → IsKept ascends xs room → ys ≡ take n xs → left ≡ room → IsKept ascends ys left
kept-take ascends n xs ys room left kept is same =
    let short = length-take n xs in
    let count = ap length is in
    let up = room_up (length ys) (length xs) (omega (arith, short, count)) in
    let roomy = kept.roomy in
    record {
      ascending = λ yes. subst AreAscending (sym is) (ascending-take n xs (kept.ascending yes));
      roomy = omega (arith, up, roomy, same);
    }

remove_shorter : (i : ℕ) (xs : List ℕ) → length (remove xs i) ≤ length xs
remove_shorter zero [] = omega arith
remove_shorter (suc i) [] = omega arith
remove_shorter zero (x ∷ xs) = omega arith
remove_shorter (suc i) (x ∷ xs) = let rest = remove_shorter i xs in omega (arith, rest)

-- what is remembered of places holds without the one at an index too
pub kept-remove : (ascends : Bool) (i : ℕ) (xs ys : List ℕ) (room left : ℕ) → IsKept ascends xs room → ys ≡ remove xs i → left ≡ room → IsKept ascends ys left
kept-remove ascends i xs ys room left kept is same =
    let short = remove_shorter i xs in
    let count = ap length is in
    let up = room_up (length ys) (length xs) (omega (arith, short, count)) in
    let roomy = kept.roomy in
    record {
      ascending = λ yes. subst AreAscending (sym is) (ascending-remove i xs (kept.ascending yes));
      roomy = omega (arith, up, roomy, same);
    }

-- it holds without a given place, if the room is enough for one more than there were
pub kept-without : (ascends : Bool) (place : ℕ) (xs ys : List ℕ) (room : ℕ) → (ascends ≡ true → AreAscending xs) → ys ≡ ids_without place xs → room_for (length xs + 1) ≤ room → IsKept ascends ys room
kept-without ascends place xs ys room up is roomy =
    let short = remove-length own place xs in
    let count = ap length is in
    let less = room_up (length ys) (length xs + 1) (omega (arith, short, count)) in
    record {
      ascending = λ yes. subst AreAscending (sym is) (ascending-without place xs (up yes));
      roomy = omega (arith, less, roomy);
    }

-- There are no more messages than rows that refer to them.
use Rattle.std.proofs.Common.{◌≡◌, ◌≢◌, ℕ, ◌*◌, ◌<◌, ◌≤◌, true, false, not, List, [], ◌∷◌, length, filter, map, nat_eq, refl, inl, inr, arith, length-append}
use Rattle.std.specs.List.{AllByRecursion, flat_map}
use Rattle.std.specs.Prelude.{IsTrue}
use Rattle.std.proofs.lemmas.List.{length-map}
use Rattle.std.proofs.lemmas.Bool.{cases_Bool, eqb-true}
use Rattle.std.proofs.lemmas.Bool.Decides.{nat_tests}
use Rattle.mqtt_base.specs.declared.limits.TheConstants.{QUEUE_LIMIT}
use Rattle.mqtt_records.specs.declared.state.records.Records.{Records}
use Rattle.mqtt_records.specs.declared.state.session.Session.{Session}
use Rattle.mqtt_records.specs.lists.Order.{IsAbove, IsAscending}
use Rattle.mqtt_records.specs.state.Contents.{StoredMessage}
use Rattle.mqtt_store_rows.specs.values.Gives.{IsWithin, AreWithin}
use Rattle.mqtt_store_rows.specs.declared.rows.message.TheConstants.{MESSAGE_LIMIT}
use Rattle.mqtt_store_rows.specs.rows.Joins.{publication_of}
use Rattle.mqtt_store_rows.specs.rows.Gives.{copy_number, queue_numbers, kept_number, numbers_in, is_among, IsReferred}

shorter : (n : ℕ) (ns : List ℕ) → length (filter (λ k. not (nat_eq k n)) ns) ≤ length ns
shorter n [] = omega arith
shorter n (k ∷ ns) = elim (cases_Bool (nat_eq k n)) [
  | inl same ↦ let less = shorter n ns in rw same (omega (arith, less))
  | inr other ↦ let less = shorter n ns in rw other (omega (arith, less))
]

-- without a number that is among them they are fewer
fewer : (n : ℕ) (ns : List ℕ) → is_among n ns ≡ true → length (filter (λ k. not (nat_eq k n)) ns) < length ns
fewer n [] among = absurd cc
fewer n (k ∷ ns) among = elim (cases_Bool (nat_eq k n)) [
  | inl same ↦ let less = shorter n ns in rw same (omega (arith, less))
  | inr other ↦ let less = fewer n ns (rw other at among) in rw other (omega (arith, less))
]

-- another number is still among them
still_among : (n m : ℕ) (ns : List ℕ) → m ≢ n → is_among m ns ≡ true → is_among m (filter (λ k. not (nat_eq k n)) ns) ≡ true
still_among n m [] differ among = absurd cc
still_among n m (k ∷ ns) differ among = elim (cases_Bool (nat_eq k n)) [
  | inl same ↦
      let is : k ≡ n = eqb-true k n same in
      let other : nat_eq k m ≡ false = grind (arith, nat_tests, is, differ) in
      rw same (still_among n m ns differ (rw other at among))
  | inr stays ↦ elim (cases_Bool (nat_eq k m)) [
    | inl here ↦ rw (stays, here) refl
    | inr behind ↦ rw (stays, behind) (still_among n m ns differ (rw behind at among))
  ]
]

all_still : (n : ℕ) (ms : List StoredMessage) (ns : List ℕ) → IsAbove publication_of n ms → AllByRecursion (λ m. IsTrue (is_among m.publication ns)) ms → AllByRecursion (λ m. IsTrue (is_among m.publication (filter (λ k. not (nat_eq k n)) ns))) ms
all_still n [] ns up all = tt
all_still n (m ∷ ms) ns up all = let more = up.0 in (still_among n m.publication ns (λ is. absurd (omega (arith, is, more))) all.0, all_still n ms ns up.1 all.1)

-- there are no more numbers in order than those among which they are
few : (ms : List StoredMessage) (ns : List ℕ) → IsAscending publication_of ms → AllByRecursion (λ m. IsTrue (is_among m.publication ns)) ms → length ms ≤ length ns
few [] ns up all = omega arith
few (m ∷ ms) ns up all =
    let less = fewer m.publication ns all.0 in
    let more = few ms (filter (λ k. not (nat_eq k m.publication)) ns) up.1 (all_still m.publication ms ns up.0 all.1) in
    omega (arith, less, more)

in_queues : (ss : List Session) → AllByRecursion IsWithin ss → length (flat_map queue_numbers ss) ≤ length ss * QUEUE_LIMIT
in_queues [] all = omega arith
in_queues (s ∷ ss) all =
    let more = in_queues ss all.1 in
    let here = all.0.queue.within in
    let count = length-map s.queue copy_number in
    let sizes = length-append (queue_numbers s) (flat_map queue_numbers ss) in
    omega (arith, more, here, count, sizes)

-- messages in order, to each of which something in the records refers, are as few as there may be
pub few_messages : (r : Records) (ms : List StoredMessage) → AreWithin r → IsAscending publication_of ms → AllByRecursion (IsReferred r) ms → length ms ≤ MESSAGE_LIMIT
few_messages r ms within up all =
    let less = few ms (numbers_in r) up all in
    let queues = in_queues r.sessions within.each in
    let sessions = within.sessions.within in
    let retained = within.retained.within in
    let count = length-map r.retained kept_number in
    let sizes = length-append (flat_map queue_numbers r.sessions) (map kept_number r.retained) in
    omega (arith, less, queues, sessions, retained, count, sizes)

-- No birth and no place above those that may be kept is found.
use Rattle.std.proofs.Common.{◌≡◌, ◌⊎◌, ℕ, ◌-◌, ◌<◌, ◌^◌, min, false, nat_eq, nat_le, List, [], ◌∷◌, map, filter, refl, sym, ap, ◌∙◌, inl, inr, arith}
use Rattle.std.specs.Prelude.{None}
use Rattle.std.proofs.lemmas.Bool.{cases_Bool, lt-leb, leb-true, leb-false}
use Rattle.sqlite_value.specs.Order.{Row}
use Rattle.mqtt_base.specs.declared.limits.TheConstants.{LAST_NUMBER}
use Rattle.mqtt_records.specs.messages.Queue.{CopyRow}
use Rattle.mqtt_records.specs.lists.Order.{row_at}
use Rattle.mqtt_records.proofs.lists_lemmas.OrderLemmas.{apart}
use Rattle.mqtt_records.specs.state.Contents.{StoredMessage}
use Rattle.mqtt_records.specs.declared.state.session.Session.{Session}
use Rattle.mqtt_records.specs.state.Session.{birth_of}
use Rattle.mqtt_store_rows.specs.values.Lists.{AreRows}
use Rattle.mqtt_store_rows.specs.values.Gives.{Parts, AreSessions}
use Rattle.mqtt_store_rows.specs.rows.Joins.{SaysCopy}
use Rattle.mqtt_store_rows.specs.rows.Gives.{AreQueues, without_queue}
use Rattle.mqtt_records.specs.state.Telling.{queue_or_none, is_from}

-- a number that SQL has, or the greatest of these, which is above all that may be kept
abbrev pub near : ℕ → ℕ
near n = min n (2 ^ 63 - 1)

-- it is a whole number of SQL
pub near_small : (n : ℕ) → near n < 2 ^ 63
near_small n = omega arith

-- of numbers that SQL has it is the number itself
pub near_same : (n : ℕ) → n < 2 ^ 63 → near n ≡ n
near_same n less = omega (arith, less)

near_or_far : (n : ℕ) → (near n ≡ n) ⊎ ((LAST_NUMBER < n) × (LAST_NUMBER < near n))
near_or_far n = elim (cases_Bool (nat_le n (2 ^ 63 - 1))) [
  | inl within ↦ let le = leb-true n (2 ^ 63 - 1) within in inl (omega (arith, le))
  | inr beyond ↦ let more = leb-false n (2 ^ 63 - 1) beyond in inr (omega (arith, more), omega (arith, more))
]

-- ---- births

no_birth : (n : ℕ) (rows : List Row) (parts : Parts) (ss : List Session) → LAST_NUMBER < n → AreSessions rows parts (map without_queue ss) → row_at birth_of n ss ≡ None
no_birth n rows parts [] far are = refl
no_birth n [] parts (s ∷ ss) far are = absurd are
no_birth n (row ∷ rows) parts (s ∷ ss) far are =
    let within = are.0.birth_range.1 in
    let other : nat_eq s.birth n ≡ false = apart s.birth n (λ same. omega (arith, far, within, same)) in
    rw other (no_birth n rows are.1.0 ss far are.1.2)

-- the session that is found by a birth is found by it as SQL has it
pub near_birth : (n : ℕ) (rows : List Row) (parts : Parts) (ss : List Session) → AreSessions rows parts (map without_queue ss) → row_at birth_of (near n) ss ≡ row_at birth_of n ss
near_birth n rows parts ss are = elim (near_or_far n) [
  | inl same ↦ ap (λ (m : ℕ). row_at birth_of m ss) same
  | inr far ↦ no_birth (near n) rows parts ss far.1 are ∙ sym (no_birth n rows parts ss far.0 are)
]

-- ---- places

none_from : (messages : List StoredMessage) (n : ℕ) (front : List Row) (queue : List CopyRow) → LAST_NUMBER < n → AreRows (SaysCopy messages) front queue → filter (is_from n) queue ≡ []
none_from messages n front [] far are = refl
none_from messages n [] (x ∷ queue) far are = absurd are
none_from messages n (row ∷ front) (x ∷ queue) far are =
    let within = are.0.own.place_range.1 in
    let before : is_from n x ≡ false = lt-leb n x.place (omega (arith, far, within)) in
    rw before (none_from messages n front queue far are.1)

near_in_queue : (messages : List StoredMessage) (n : ℕ) (front : List Row) (queue : List CopyRow) → AreRows (SaysCopy messages) front queue → filter (is_from (near n)) queue ≡ filter (is_from n) queue
near_in_queue messages n front queue are = elim (near_or_far n) [
  | inl same ↦ ap (λ (m : ℕ). filter (is_from m) queue) same
  | inr far ↦ none_from messages (near n) front queue far.1 are ∙ sym (none_from messages n front queue far.0 are)
]

-- the copies from a place on are those from it on as SQL has it
pub near_place : (messages : List StoredMessage) (birth n : ℕ) (queued : List Row) (ss : List Session) → AreQueues messages queued ss
    → filter (is_from (near n)) (queue_or_none (row_at birth_of birth ss)) ≡ filter (is_from n) (queue_or_none (row_at birth_of birth ss))
near_place messages birth n queued [] are = refl
near_place messages birth n queued (s ∷ ss) are = elim (cases_Bool (nat_eq s.birth birth)) [
  | inl here ↦ rw here (near_in_queue messages n are.1.front s.queue are.1.are)
  | inr other ↦ rw other (near_place messages birth n are.0 ss are.2)
]

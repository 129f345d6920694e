-- The digests of the sessions after a change of these.
use Rattle.std.proofs.Common.{◌≡◌, ℕ, suc, ◌||◌, List, [], ◌∷◌, length, map, nat_eq, nat_lt, refl, ap, ◌∙◌, inl, inr}
use Rattle.std.proofs.lemmas.Bool.{cases_Bool}
use Rattle.mqtt_base.specs.declared.limits.TheConstants.{SESSION_LIMIT}
use Rattle.mqtt_records.specs.lists.Order.{has_row, insert_row, put_row, remove_row, change_row}
use Rattle.mqtt_records.specs.declared.state.session.Session.{Session}
use Rattle.mqtt_records.specs.declared.state.session.Columns.{Columns}
use Rattle.mqtt_records.specs.state.Session.{birth_of, with_columns}
use Rattle.mqtt_keep.specs.declared.by_name.digest.DigestRow.{DigestRow}
use Rattle.mqtt_keep.specs.by_name.Digests.{digest_of, digest_row, digest_rows, digest_birth, with_digest}

-- as many digests as sessions
pub rows_length : (ss : List Session) → length (digest_rows ss) ≡ length ss
rows_length [] = refl
rows_length (s ∷ ss) = ap suc (rows_length ss)

has_digest : (birth : ℕ) (ss : List Session) → has_row digest_birth birth (digest_rows ss) ≡ has_row birth_of birth ss
has_digest birth [] = refl
has_digest birth (s ∷ ss) = elim (cases_Bool (nat_eq s.birth birth)) [
  | inl here ↦ rw here refl
  | inr later ↦ rw later (has_digest birth ss)
]

insert_digest : (s : Session) (ss : List Session) → insert_row digest_birth (digest_row s) (digest_rows ss) ≡ digest_rows (insert_row birth_of s ss)
insert_digest s [] = refl
insert_digest s (t ∷ ts) = elim (cases_Bool (nat_lt s.birth t.birth)) [
  | inl before ↦ rw before refl
  | inr after ↦ elim (cases_Bool (nat_eq s.birth t.birth)) [
    | inl same ↦ rw (after, same) refl
    | inr other ↦ rw (after, other) (ap (λ (rows : List DigestRow). digest_row t ∷ rows) (insert_digest s ts))
  ]
]

-- a session that is put
pub put_digest : (s : Session) (ss : List Session) → put_row digest_birth SESSION_LIMIT (digest_row s) (digest_rows ss) ≡ digest_rows (put_row birth_of SESSION_LIMIT s ss)
put_digest s ss = elim (cases_Bool (has_row birth_of s.birth ss || nat_lt (length ss) SESSION_LIMIT)) [
  | inl takes ↦ rw (has_digest s.birth ss, rows_length ss, takes) (insert_digest s ss)
  | inr full ↦ rw (has_digest s.birth ss, rows_length ss, full) refl
]

-- a session that is removed
pub remove_digest : (birth : ℕ) (ss : List Session) → remove_row digest_birth birth (digest_rows ss) ≡ digest_rows (remove_row birth_of birth ss)
remove_digest birth [] = refl
remove_digest birth (s ∷ ss) = elim (cases_Bool (nat_eq s.birth birth)) [
  | inl goes ↦ rw goes (remove_digest birth ss)
  | inr stays ↦ rw stays (ap (λ (rows : List DigestRow). digest_row s ∷ rows) (remove_digest birth ss))
]

-- a session's own row that is set
pub set_digest : (row : Columns) (ss : List Session) → change_row digest_birth row.birth (with_digest (digest_of row.client)) (digest_rows ss) ≡ digest_rows (change_row birth_of row.birth (with_columns row) ss)
set_digest row [] = refl
set_digest row (s ∷ ss) = elim (cases_Bool (nat_eq s.birth row.birth)) [
  | inl here ↦ rw here refl
  | inr later ↦ rw later (ap (λ (rows : List DigestRow). digest_row s ∷ rows) (set_digest row ss))
]

-- a change of a session that leaves its client identifier
pub same_digest : (birth : ℕ) (f : Session → Session) (ss : List Session) → ((s : Session) → digest_row (f s) ≡ digest_row s) → digest_rows (change_row birth_of birth f ss) ≡ digest_rows ss
same_digest birth f [] same = refl
same_digest birth f (s ∷ ss) same = elim (cases_Bool (nat_eq s.birth birth)) [
  | inl here ↦ rw here (ap (λ (row : DigestRow). row ∷ digest_rows ss) (same s))
  | inr later ↦ rw later (ap (λ (rows : List DigestRow). digest_row s ∷ rows) (same_digest birth f ss same))
]

-- a change of every session that leaves their client identifiers
pub same_digests : (f : Session → Session) (ss : List Session) → ((s : Session) → digest_row (f s) ≡ digest_row s) → digest_rows (map f ss) ≡ digest_rows ss
same_digests f [] same = refl
same_digests f (s ∷ ss) same = ap (λ (row : DigestRow). row ∷ digest_rows (map f ss)) (same s) ∙ ap (λ (rows : List DigestRow). digest_row s ∷ rows) (same_digests f ss same)

-- Digests of client identifiers, in the order of the sessions (ours).
use Rattle.std.specs.Prelude.{ℕ, ◌+◌, ◌*◌, ◌%◌, ◌^◌, List, [], ◌∷◌, map}
use Rattle.mqtt_records.specs.declared.state.session.Session.{Session}
use Rattle.mqtt_keep.specs.declared.by_name.digest.DigestRow.{DigestRow}

-- a number below 2^32 that tells most names apart: each byte is added to 31 times what came before it
abbrev pub digest_from : ℕ → List ℕ → ℕ
digest_from digest [] = digest
digest_from digest (byte ∷ bytes) = digest_from ((digest * 31 + byte) % 2 ^ 32) bytes

abbrev pub digest_of : List ℕ → ℕ
digest_of name = digest_from 0 name

-- a session's birth, with the digest of its client identifier
abbrev pub digest_row : Session → DigestRow
digest_row session = record { birth = session.birth; digest = digest_of session.client }

abbrev pub digest_rows : List Session → List DigestRow
digest_rows sessions = map digest_row sessions

abbrev pub digest_birth : DigestRow → ℕ
digest_birth row = row.birth

abbrev pub with_digest : ℕ → DigestRow → DigestRow
with_digest digest row = record row { digest = digest }

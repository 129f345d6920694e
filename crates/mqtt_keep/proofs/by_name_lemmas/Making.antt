-- A session more has its digest at the end.
use Rattle.std.proofs.Common.{◌≡◌, ℕ, ◌<◌, ◌≤◌, suc, zero, List, [], ◌∷◌, ◌++◌, length, take, get_or, refl, ap, ◌∙◌, arith}
use Rattle.mqtt_base.specs.declared.limits.TheConstants.{SESSION_LIMIT}
use Rattle.mqtt_records.specs.lists.Order.{IsAbove, IsAscending, IsBelow, put_row}
use Rattle.mqtt_records.proofs.lists_lemmas.LookUps.{put_row-last}
use Rattle.mqtt_records.specs.declared.state.session.Session.{Session}
use Rattle.mqtt_records.specs.state.Session.{birth_of}
use Rattle.mqtt_keep.specs.declared.by_name.digest.DigestRow.{DigestRow}
use Rattle.mqtt_keep.specs.by_name.Digests.{digest_row, digest_rows, digest_birth}

above_all : (n i : ℕ) (d : Session) (ss : List Session) → IsAbove birth_of n ss → i < length ss → n < (get_or ss i d).birth
above_all n i d [] up less = absurd (omega (arith, less))
above_all n zero d (s ∷ ss) up less = up.0
above_all n (suc i) d (s ∷ ss) up less = above_all n i d ss up.1 (omega (arith, less))

-- the digests of the sessions before the one at a place have lower births
below_here : (i : ℕ) (d : Session) (ss : List Session) → IsAscending birth_of ss → i < length ss → IsBelow digest_birth (get_or ss i d).birth (digest_rows (take i ss))
below_here i d [] up less = absurd (omega (arith, less))
below_here zero d (s ∷ ss) up less = tt
below_here (suc i) d (s ∷ ss) up less = (above_all s.birth i d ss up.0 (omega (arith, less)), below_here i d ss up.1 (omega (arith, less)))

few : (i : ℕ) (ss : List Session) → i < length ss → length (digest_rows (take i ss)) ≡ i
few i [] less = absurd (omega (arith, less))
few zero (s ∷ ss) less = refl
few (suc i) (s ∷ ss) less = ap suc (few i ss (omega (arith, less)))

one_more : (i : ℕ) (d : Session) (ss : List Session) → i < length ss → digest_rows (take i ss) ++ digest_row (get_or ss i d) ∷ [] ≡ digest_rows (take (suc i) ss)
one_more i d [] less = absurd (omega (arith, less))
one_more zero d (s ∷ ss) less = refl
one_more (suc i) d (s ∷ ss) less = ap (λ (rows : List DigestRow). digest_row s ∷ rows) (one_more i d ss (omega (arith, less)))

-- the digest of one session more
pub digest_more : (i : ℕ) (d : Session) (ss : List Session) → IsAscending birth_of ss → length ss ≤ SESSION_LIMIT → i < length ss
    → put_row digest_birth SESSION_LIMIT (digest_row (get_or ss i d)) (digest_rows (take i ss)) ≡ digest_rows (take (suc i) ss)
digest_more i d ss up within less =
    let count = few i ss less in
    put_row-last digest_birth SESSION_LIMIT (digest_row (get_or ss i d)) (digest_rows (take i ss)) (below_here i d ss up less) (omega (arith, count, within, less))
    ∙ one_more i d ss less

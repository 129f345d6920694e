-- The rows of a queue from a place on stand behind those before it.
use Rattle.std.proofs.Common.{◌≡◌, ℕ, zero, suc, ◌≤◌, true, false, List, [], ◌∷◌, length, filter, drop, ltb, nat_le, refl, ap, arith}
use Rattle.std.specs.List.{AllWithin}
use Rattle.std.proofs.lemmas.Bool.{ltb-true, ltb-false, le-leb, lt-leb}
use Rattle.mqtt_records.specs.messages.Queue.{CopyRow}
use Rattle.mqtt_records.specs.state.Session.{copy_place}
use Rattle.mqtt_records.specs.state.Telling.{is_from}

-- if the rows before an index have lower places, and those from there on don't
pub from_is : (k : ℕ) (xs : List CopyRow) (i : ℕ) → i ≤ length xs → AllWithin (λ x. ltb (copy_place x) k ≡ true) xs 0 i → AllWithin (λ x. ltb (copy_place x) k ≡ false) xs i (length xs)
    → drop i xs ≡ filter (is_from k) xs
from_is k [] zero le low high = refl
from_is k [] (suc i) le low high = absurd (omega (arith, le))
from_is k (x ∷ xs) zero le low high =
    let here : nat_le k x.place ≡ true = le-leb k x.place (ltb-false x.place k (high 0 x (omega arith) (omega arith))) in
    rw here (ap (λ (ys : List CopyRow). x ∷ ys) (from_is k xs zero (omega arith) (λ j d a b. low (suc j) d (omega arith) (omega (arith, b))) (λ j d a b. high (suc j) d (omega (arith, a)) (omega (arith, b)))))
from_is k (x ∷ xs) (suc i) le low high =
    let here : nat_le k x.place ≡ false = lt-leb k x.place (ltb-true x.place k (low 0 x (omega arith) (omega arith))) in
    rw here (from_is k xs i (omega (arith, le)) (λ j d a b. low (suc j) d (omega arith) (omega (arith, b))) (λ j d a b. high (suc j) d (omega (arith, a)) (omega (arith, b))))

-- One call inside a transaction after the other.
use Rattle.std.proofs.Common.{refl, inl, arith}
use Rattle.sqlite.specs.State.{State, HasCleanDisk}
use Rattle.sqlite.proofs.StateLemmas.{survives_then}
use Rattle.sqlite.proofs.InsideLemmas.{keeps_then}
use Rattle.mqtt_store_tables.specs.forms.Settled.{StaysInside}

-- a disk that is clean after a call inside a transaction was clean before it
pub clean_before : (a b : State) → StaysInside a b → HasCleanDisk b → HasCleanDisk a
clean_before a b it clean = let less = it.survives.clean in omega (arith, less, clean)

-- no call at all stays inside a transaction
pub stays_same : (s : State) → StaysInside s s
stays_same s = record {
  kept = λ clean. record { was_open = λ up. up; committed = λ up. refl };
  survives = record { clean = omega arith; shield = λ h. h; counts = omega arith; limit = refl; closes = λ _ up. inl up; crash = λ _ db may. inl may };
}

-- one call inside a transaction, and then another, stay inside it
pub stays_then : (a b c : State) → StaysInside a b → StaysInside b c → StaysInside a c
stays_then a b c x y = record {
  kept = λ clean. keeps_then a b c (x.kept (clean_before b c y clean)) (y.kept clean);
  survives = survives_then a b c (λ _. ⊥) (λ _. ⊥) (λ _. ⊥) (λ _ db none. none) (λ _ db none. none) x.survives y.survives;
}

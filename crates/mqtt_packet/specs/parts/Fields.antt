-- Fields that are read one after the other.
use Rattle.std.specs.Prelude.{ℕ, Bool, true, false, List, [], Option, Some, None, Result, Ok}
use Rattle.mqtt_base.specs.Reading.{◌>>=◌}
use Rattle.mqtt_packet.specs.declared.parts.fault.Fault.{Fault}
use Rattle.mqtt_packet.specs.parts.Reading.{malformed}

-- a field, and then another
abbrev pub both_at : {A B : Type 0} → (List ℕ → Result (A × List ℕ) Fault) → (List ℕ → Result (B × List ℕ) Fault) → List ℕ → Result ((A × B) × List ℕ) Fault
both_at first second bytes = do
  x ← first bytes
  y ← second x.1
  Ok ((x.0, y.0), y.1)

-- a field, if a flag says that it is there
abbrev pub optional_at : {A : Type 0} → Bool → (List ℕ → Result (A × List ℕ) Fault) → List ℕ → Result (Option A × List ℕ) Fault
optional_at false at bytes = Ok (None, bytes)
optional_at true at bytes = do
  x ← at bytes
  Ok (Some x.0, x.1)

-- a field that can't be read makes its packet malformed
abbrev pub field_at : {A E : Type 0} → (List ℕ → Result (A × List ℕ) E) → List ℕ → Result (A × List ℕ) Fault
field_at at bytes = malformed (at bytes)

-- how an optional field is spelled
abbrev pub optional : {A : Type 0} → (A → List ℕ) → Option A → List ℕ
optional spell None = []
optional spell (Some x) = spell x

abbrev pub FitsOptional : {A : Type 0} → (A → Type 0) → Option A → Type 0
FitsOptional Good None = Unit {0}
FitsOptional Good (Some x) = Good x

-- Whose a line's number is, in the eyes of one end: of the others' lines none is its own (MQTT 5.0, 4.2).
use Rattle.std.specs.Prelude.{◌≡◌, ℕ, ◌≤◌, Option, Some}
use Rattle.mqtt_world_model.specs.model.Lines.{Line}

-- it was given, and is out of the numbers of that end
abbrev pub IsApartFrom : (ℕ → Type 0) → ℕ → Option ℕ → Type 0
IsApartFrom Out given x = (n : ℕ) → x ≡ Some n → Out n × (n ≤ given)

-- so are those of another end's line, and of the one that it gave up
pub record HasApart {U : Type 0} (Out : ℕ → Type 0) (given : ℕ) (l : Line U) : Type 0 where
  pub number : IsApartFrom Out given l.number
  pub old_number : IsApartFrom Out given l.old_number

-- Connections that rest: nothing is to be done on them (ours).
use Rattle.std.specs.Prelude.{◌≡◌, ℕ, ◌<◌, ◌≤◌, true, false, List, [], length, slice_get, Option, Some, MatchOption}
use Rattle.memchr.specs.Find.{Passes, is_byte}
use Rattle.mqtt_serve.specs.declared.turns.connections.TheConstants.{AWAKE}
use Rattle.mqtt_serve.specs.declared.turns.turn.Pace.{Pace}
use Rattle.mqtt_serve.specs.declared.turns.turn.Pace.TheVariants.{Brisk}
use Rattle.mqtt_serve.specs.turns.Wires.{Wire, LetsGo, may_send}

-- it stands, the last write took all that waited, nothing waits, and nothing is held back
pub record Rests (w : Wire) : Type 0 where
  pub may_send : may_send w ≡ true
  pub nothing_waits : w.waits ≡ []
  pub nothing_held : LetsGo false w w

-- the numbers of their lines stand by place, and a connection that isn't noted as awake rests
pub record AreNoted (numbers awake : List ℕ) (wires : List Wire) : Type 0 where
  pub as_many : (length numbers ≡ length wires) × (length awake ≡ length wires)
  pub numbered : (k : ℕ) (w : Wire) → slice_get wires k ≡ Some w → slice_get numbers k ≡ Some w.number
  pub resting : (k : ℕ) (w : Wire) → slice_get wires k ≡ Some w → ¬ Passes (is_byte AWAKE) awake k → Rests w

-- the connections from a place up to another rest
abbrev pub RestBetween : ℕ → ℕ → List Wire → Type 0
RestBetween from until wires = (k : ℕ) (w : Wire) → from ≤ k → k < until → slice_get wires k ≡ Some w → Rests w

-- those from a place on rest up to this one, or all
abbrev pub IsNextAwake : ℕ → List Wire → Option ℕ → Type 0
IsNextAwake from wires next = MatchOption next (RestBetween from (length wires) wires)
    (λ place. (from ≤ place) × (place < length wires) × RestBetween from place wires)

-- those from a place on are passed over up to this one, or all: in a brisk turn those that rest, in a full turn none
abbrev pub IsNextServed : Pace → ℕ → List Wire → Option ℕ → Type 0
IsNextServed pace from wires next = MatchOption next ((from < length wires → pace ≡ Brisk) × RestBetween from (length wires) wires)
    (λ place. (from ≤ place) × (place < length wires) × (from < place → pace ≡ Brisk) × RestBetween from place wires)

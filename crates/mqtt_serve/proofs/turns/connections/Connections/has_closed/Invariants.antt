use Rattle.std.proofs.Common.{ℕ, ◌≡◌, ◌<◌, ◌≤◌, ◌-◌, Some, false, length}
use Rattle.std.specs.Prelude.{slice_get}
use Rattle.mqtt_serve.specs.turns.Wires.{Wire, is_closed}
use Rattle.mqtt_serve.proofs.turns.connections.Connections.has_closed.Given as goal

-- none is closed before the place from which on they are asked
abbrev pub invariant-loop-place : goal.invariant-loop-place
invariant-loop-place g l = (l.from ≤ length l.self) × ((k : ℕ) (w : Wire) → k < l.from → slice_get l.self k ≡ Some w → is_closed w.fate ≡ false)

abbrev pub decreases-loop-place : goal.decreases-loop-place
decreases-loop-place g l = length l.self - l.from

use Rattle.std.proofs.Common.{ℕ, ◌≡◌, ◌<◌, ◌≤◌, ◌-◌, Some, length}
use Rattle.std.specs.Prelude.{slice_get}
use Rattle.mqtt_serve.specs.turns.Settled.{CanWait}
use Rattle.mqtt_serve.specs.turns.Wires.{Wire}
use Rattle.mqtt_serve.proofs.turns.running.is_any_awake.Given as goal

-- each before the place from which on they are asked can wait
abbrev pub invariant-loop-place : goal.invariant-loop-place
invariant-loop-place g l = (l.from ≤ length l.lines) × ((k : ℕ) (w : Wire) → k < l.from → slice_get l.lines k ≡ Some w → CanWait w)

abbrev pub decreases-loop-place : goal.decreases-loop-place
decreases-loop-place g l = length l.lines - l.from

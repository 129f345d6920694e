use Rattle.std.proofs.Common.{ℕ, ◌+◌, ◌<◌}
use Rattle.std.specs.List.{slice_index}
use Rattle.mqtt_broker_step.proofs.places.ascend.Given as goal

-- each place before this one is below the next
abbrev pub invariant-loop-at : goal.invariant-loop-at
invariant-loop-at l = (k : ℕ) → k + 1 < l.at → slice_index l.places k < slice_index l.places (k + 1)

use Rattle.std.proofs.Common.{◌≤◌, ◌-◌, length}
use Rattle.mqtt_serve.proofs.turns.running.has_new.Given as goal

abbrev pub invariant-loop-place : goal.invariant-loop-place
invariant-loop-place g l = l.from ≤ length l.lines

abbrev pub decreases-loop-place : goal.decreases-loop-place
decreases-loop-place g l = length l.lines - l.from

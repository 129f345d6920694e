use Rattle.std.proofs.Common.{◌≤◌, ◌-◌, length}
use Rattle.mqtt_serve.proofs.turns.settling.goes_on.Given as goal

abbrev pub invariant-loop-place : goal.invariant-loop-place
invariant-loop-place g l = l.from ≤ length l.links-inside.lines

abbrev pub decreases-loop-place : goal.decreases-loop-place
decreases-loop-place g l = length l.links-inside.lines - l.from

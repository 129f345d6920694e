use Rattle.std.proofs.Common.{◌≡◌, ◌≤◌, ◌-◌, length}
use Rattle.mqtt_serve.specs.turns.Settled.{LetsGoBelow}
use Rattle.mqtt_serve.proofs.turns.settling.let_go_all.Given as goal

abbrev pub invariant-loop-place : goal.invariant-loop-place
invariant-loop-place g l = record {
  len : length l.lines ≡ length l.fn.lines;
  within : l.from ≤ length l.lines;
  lets : LetsGoBelow l.from l.went l.fn.lines l.lines;
  same : g.L.Link.calls l.link.link ≡ g.L.Link.calls l.fn.link.link;
}

abbrev pub decreases-loop-place : goal.decreases-loop-place
decreases-loop-place g l = length l.fn.lines - l.from

use Rattle.std.proofs.Common.{◌≡◌, ◌≤◌, ◌-◌, length}
use Rattle.mqtt_serve.specs.turns.Turns.{server, ServesBelow}
use Rattle.mqtt_serve.proofs.turns.turn.serve_lines.Given as goal

abbrev pub invariant-loop-place : goal.invariant-loop-place
invariant-loop-place g l = record {
  len : length l.lines ≡ length l.fn.lines;
  within : l.from ≤ length l.lines;
  serves : ServesBelow g.K.Keep l.fn.pace l.fn.moment l.from l.busy (server l.fn.engine l.fn.lines) (server l.engine l.lines);
  same : g.L.Link.calls l.link ≡ g.L.Link.calls l.fn.link;
}

abbrev pub decreases-loop-place : goal.decreases-loop-place
decreases-loop-place g l = length l.fn.lines - l.from

use Rattle.std.proofs.Common.{◌≡◌, length}
use Rattle.mqtt_serve.specs.turns.Turns.{server, GivenSoFar}
use Rattle.mqtt_serve.proofs.turns.giving.give.Given as goal

abbrev pub invariant-loop : goal.invariant-loop
invariant-loop g l = record {
  len : length l.lines ≡ length l.fn.lines;
  so_far : GivenSoFar g.K.Keep l.fn.moment l.fn.place l.fn.number l.fn.bytes (server l.fn.engine l.fn.lines) l.counter l.rest (server l.engine l.lines);
}

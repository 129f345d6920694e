use Rattle.std.proofs.Common.{◌≡◌, ◌≤◌, length}
use Rattle.std.specs.Vec.{vec_capacity}
use Rattle.mqtt_base.specs.declared.limits.TheConstants.{LINE_LIMIT}
use Rattle.mqtt_serve.specs.turns.Turns.{without_closed}
use Rattle.mqtt_serve.proofs.turns_lemmas.Noted.{NotedBelow}
use Rattle.mqtt_serve.proofs.turns.connections.Connections.remove_closed.Given as goal

abbrev pub invariant-loop-place : goal.invariant-loop-place
invariant-loop-place g l = record {
  left : l.self-inside.all.items ≡ without_closed l.fn.self;
  noted : NotedBelow l.place l.self-inside.numbers.items l.self-inside.awake.items l.self-inside.all.items;
  counted : length l.self-inside.all.items ≡ l.count;
  room : LINE_LIMIT ≤ vec_capacity l.self-inside.all;
  room_too : LINE_LIMIT ≤ vec_capacity l.self-inside.numbers;
  room_still : LINE_LIMIT ≤ vec_capacity l.self-inside.awake;
}

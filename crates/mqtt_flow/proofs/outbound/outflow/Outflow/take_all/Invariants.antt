use Rattle.std.proofs.Common.{◌≡◌, ◌≤◌, drop}
use Rattle.mqtt_base.specs.declared.limits.TheConstants.{LAST_NUMBER}
use Rattle.mqtt_flow.specs.outbound.Queue.{after_all, greatest_given}
use Rattle.mqtt_flow.proofs.outbound.outflow.Outflow.take_all.Given as goal

abbrev pub invariant-loop-turn : goal.invariant-loop-turn
invariant-loop-turn l = record {
  queue : after_all (drop l.turn-index l.turns) l.self.queue ≡ after_all l.turns l.initial.self.queue;
  orders : greatest_given (drop l.turn-index l.turns) ≤ LAST_NUMBER;
  room : l.initial.self.room ≤ l.self.room;
}

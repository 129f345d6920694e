use Rattle.std.proofs.Common.{◌≡◌, ◌+◌, ◌≤◌, drop}
use Rattle.std.specs.Prelude.{count_by}
use Rattle.mqtt_broker_queue.specs.queues.Turning.{is_sending}
use Rattle.mqtt_broker_queue.proofs.queues.pumping.sendings.Given as goal

abbrev pub invariant-loop-turn : goal.invariant-loop-turn
invariant-loop-turn l = record { counted : l.count + count_by is_sending (drop l.turn-index l.turns) ≡ count_by is_sending l.turns; within : l.count ≤ l.turn-index }

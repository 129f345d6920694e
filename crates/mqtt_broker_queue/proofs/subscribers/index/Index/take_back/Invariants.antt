-- What is forgone changes nothing of the table.
use Rattle.std.proofs.Common.{◌≡◌}
use Rattle.mqtt_broker_queue.proofs.subscribers.index.Index.take_back.Given as goal

abbrev pub invariant-loop-routed : goal.invariant-loop-routed
invariant-loop-routed l = l.self-inside.1.0 ≡ l.initial.self-inside.1.0

use Rattle.std.proofs.Common.{◌≡◌, drop}
use Rattle.mqtt_rules.specs.step.Fitting.{size_at}
use Rattle.mqtt_broker_queue.proofs.queues.queue.size_at.Given as goal

abbrev pub invariant-loop-listed : goal.invariant-loop-listed
invariant-loop-listed l = size_at (drop l.listed-index l.sizes) l.row ≡ size_at l.sizes l.row

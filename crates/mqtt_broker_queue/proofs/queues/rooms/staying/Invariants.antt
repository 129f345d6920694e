use Rattle.std.proofs.Common.{◌≡◌, ◌+◌, ◌≤◌, drop}
use Rattle.std.specs.Prelude.{not}
use Rattle.std.specs.List.{count_by}
use Rattle.mqtt_broker_queue.specs.queues.Entering.{gives_way_to}
use Rattle.mqtt_broker_queue.proofs.queues.rooms.staying.Given as goal

abbrev pub invariant-loop-row : goal.invariant-loop-row
invariant-loop-row l = record {
  counted : l.count + count_by (λ e. not (gives_way_to l.first e)) (drop l.row-index l.queue) ≡ count_by (λ e. not (gives_way_to l.first e)) l.queue;
  within : l.count ≤ l.row-index;
}

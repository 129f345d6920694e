use Rattle.std.proofs.Common.{◌≡◌, ◌++◌, take}
use Rattle.std.specs.Prelude.{flat_map}
use Rattle.mqtt_broker_queue.specs.subscribers.Indexing.{served_addressees}
use Rattle.mqtt_broker_queue.proofs.subscribers.copies.add_served.Given as goal

abbrev pub invariant-loop-served : goal.invariant-loop-served
invariant-loop-served l = l.out.items ≡ l.fn.out.items ++ flat_map served_addressees (take l.served-index l.all)

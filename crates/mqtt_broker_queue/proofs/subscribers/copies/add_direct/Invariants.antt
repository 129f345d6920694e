use Rattle.std.proofs.Common.{◌≡◌, ◌++◌, take, map}
use Rattle.mqtt_base.specs.declared.session.Cause.TheVariants.{Direct}
use Rattle.mqtt_broker_queue.specs.publications.Copies.{addressee}
use Rattle.mqtt_broker_queue.proofs.subscribers.copies.add_direct.Given as goal

abbrev pub invariant-loop-copy : goal.invariant-loop-copy
invariant-loop-copy l = l.out.items ≡ l.fn.out.items ++ map (addressee Direct) (take l.copy-index l.copies)

use Rattle.std.proofs.Common.{length}
use Rattle.mqtt_base.proofs.Items.{Settled}
use Rattle.mqtt_packet.specs.declared.parts.fault.Fault.TheVariants.{Malformed}
use Rattle.mqtt_packet.specs.subscribe.Subscriptions.{subscription_at}
use Rattle.mqtt_packet.proofs.subscribe.subscriptions.walk.Given as goal

abbrev pub invariant-loop-rest : goal.invariant-loop-rest
invariant-loop-rest l = Settled Malformed subscription_at l.rest l.bytes

abbrev pub decreases-loop-rest : goal.decreases-loop-rest
decreases-loop-rest l = length l.rest

use Rattle.mqtt_base.proofs.Items.{items_read}
use Rattle.mqtt_packet.specs.declared.parts.fault.Fault.TheVariants.{Malformed}
use Rattle.mqtt_packet.specs.subscribe.Subscriptions.{subscription_at}
use Rattle.mqtt_packet.proofs.subscribe.subscriptions.subscriptions_read.Goals as goal

pub returns : goal.returns
returns c = items_read Malformed subscription_at c.args.bytes.now c.in_ok-walk.ensures

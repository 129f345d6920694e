use Rattle.mqtt_packet.specs.declared.parts.fault.Fault.TheVariants.{Malformed}
use Rattle.mqtt_packet.specs.subscribe.Subscriptions.{subscription_at}
use Rattle.mqtt_packet.proofs.subscribe_lemmas.ItemLemmas.{no_items, none_of}
use Rattle.mqtt_packet.proofs.subscribe.subscriptions.Subscriptions.new.Goals as goal

pub invariant_of-result : goal.invariant_of-result
invariant_of-result c = rw c.new.ensures (no_items Malformed subscription_at)

pub returns : goal.returns
returns c = rw c.new.ensures (none_of Malformed subscription_at)

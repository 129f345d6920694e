use Rattle.std.proofs.Common.{List, length, ap, subst, ◌∙◌}
use Rattle.std.specs.List.{flat_map, AllByRecursion}
use Rattle.mqtt_base.proofs.Items.{items_are}
use Rattle.mqtt_packet.specs.declared.parts.fault.Fault.TheVariants.{Malformed}
use Rattle.mqtt_packet.specs.subscribe.Subscriptions.{Subscription, subscription, IsSubscription}
use Rattle.mqtt_packet.specs.subscribe.Subscriptions.{subscription_at}
use Rattle.mqtt_packet.proofs.subscribe_lemmas.SubscriptionLemmas.{subscription_reads}
use Rattle.mqtt_packet.proofs.subscribe.subscriptions.SubscriptionsRef.len.Goals as goal

pub returns-clause-value : goal.returns-clause-value
returns-clause-value c = ap length ((items_are Malformed subscription_at subscription IsSubscription subscription_reads c.self.inside.bytes.now c.self.invariant).0 ∙ ap (flat_map subscription) c.self.view_is)

pub returns-clause-each : goal.returns-clause-each
returns-clause-each c = subst (λ (fs : List Subscription). AllByRecursion IsSubscription fs) c.self.view_is (items_are Malformed subscription_at subscription IsSubscription subscription_reads c.self.inside.bytes.now c.self.invariant).1

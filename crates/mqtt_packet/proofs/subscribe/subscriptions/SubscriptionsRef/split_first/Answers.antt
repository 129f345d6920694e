use Rattle.std.proofs.Common.{sym, ◌∙◌}
use Rattle.std.proofs.lemmas.List.{take_rest}
use Rattle.mqtt_base.proofs.Items.{splits, ended}
use Rattle.mqtt_packet.specs.declared.parts.fault.Fault.TheVariants.{Malformed}
use Rattle.mqtt_packet.specs.subscribe.Subscriptions.{subscription, IsSubscription}
use Rattle.mqtt_packet.specs.subscribe.Subscriptions.{subscription_at}
use Rattle.mqtt_packet.specs.subscribe.SubscriptionViews.{subscription_of}
use Rattle.mqtt_packet.proofs.subscribe_lemmas.SubscriptionLemmas.{subscription_reads}
use Rattle.mqtt_packet.proofs.subscribe.subscriptions.SubscriptionsRef.split_first.Goals as goal

pub invariant_of-result : goal.invariant_of-result
invariant_of-result c = rw take_rest (splits Malformed subscription_at subscription IsSubscription subscription_reads c.self.inside.bytes.now (subscription_of c.in-Ok.first) _ c.self.invariant c.in-Ok.ensures.exact.1).whole

pub returns-in-Ok : goal.returns-in-Ok
returns-in-Ok c = rw take_rest (sym c.self.view_is ∙ (splits Malformed subscription_at subscription IsSubscription subscription_reads c.self.inside.bytes.now (subscription_of c.in-Ok.first) _ c.self.invariant c.in-Ok.ensures.exact.1).list)

pub returns-in-Err : goal.returns-in-Err
returns-in-Err c = sym c.self.view_is ∙ ended Malformed subscription_at c.self.inside.bytes.now c.in-Err.field-0 c.self.invariant c.in-Err.ensures.exact

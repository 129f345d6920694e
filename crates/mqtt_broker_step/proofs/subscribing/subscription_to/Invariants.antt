-- The rest answers as the whole (3.8.4).
use Rattle.std.proofs.Common.{◌≡◌, length}
use Rattle.std.specs.Prelude.{find}
use Rattle.mqtt_rules.specs.step.Subscribe.{is_to}
use Rattle.mqtt_broker_step.proofs.subscribing.subscription_to.Given as goal

abbrev pub invariant-loop-subscription : goal.invariant-loop-subscription
invariant-loop-subscription l = find (is_to l.text) l.rest ≡ find (is_to l.text) l.session.subscriptions

abbrev pub decreases-loop-subscription : goal.decreases-loop-subscription
decreases-loop-subscription l = length l.rest

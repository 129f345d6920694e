-- The rest answers as the whole (3.8.4).
use Rattle.std.proofs.Common.{◌≡◌, length}
use Rattle.mqtt_rules.specs.step.Subscribe.{place_among}
use Rattle.mqtt_broker_looks.proofs.decided.filters.place_among.Given as goal

abbrev pub invariant-loop-subscription : goal.invariant-loop-subscription
invariant-loop-subscription l = place_among l.number l.text l.rest ≡ place_among l.number l.text l.session.subscriptions

abbrev pub decreases-loop-subscription : goal.decreases-loop-subscription
decreases-loop-subscription l = length l.rest

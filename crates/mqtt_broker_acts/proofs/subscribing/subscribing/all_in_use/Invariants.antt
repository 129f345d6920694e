-- The codes so far, and one for each filter of the rest, are those of all.
use Rattle.std.proofs.Common.{◌≡◌, ◌++◌, length, map}
use Rattle.mqtt_base.specs.Codes.{identifier_in_use}
use Rattle.mqtt_packet.specs.subscribe.Subscriptions.{Subscription as Asked}
use Rattle.mqtt_broker_acts.proofs.subscribing.subscribing.all_in_use.Given as goal

abbrev pub invariant-loop-after : goal.invariant-loop-after
invariant-loop-after l = l.codes.items ++ map (λ (a : Asked). identifier_in_use) l.rest ≡ map (λ (a : Asked). identifier_in_use) l.filters

abbrev pub decreases-loop-after : goal.decreases-loop-after
decreases-loop-after l = length l.rest

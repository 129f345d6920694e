-- Filters with options that stand in a frame (MQTT 5.0, 3.8.3).
use Rattle.std.specs.Prelude.{ℕ, List}
use Rattle.mqtt_base.specs.declared.session.SubscriptionOptions.{SubscriptionOptions}
use Rattle.mqtt_packet.specs.declared.subscribe.subscriptions.SubscriptionRef.{SubscriptionRef}
use Rattle.mqtt_packet.specs.subscribe.Subscriptions.{Subscription}
use Rattle.mqtt_packet.specs.subscribe.Options.{options_byte}

abbrev pub subscription_of : SubscriptionRef → Subscription
subscription_of w = record { filter = w.filter.now; options = w.options }

-- a filter with the byte of these options
abbrev pub asked : List ℕ → SubscriptionOptions → Subscription
asked filter options = record { filter = filter; options = options_byte options }

-- The layout of SUBSCRIBE (MQTT 5.0, 3.8).
use Rattle.std.specs.Prelude.{ℕ, ◌<◌, ◌^◌, Bool, ◌&&◌, not, nat_lt, List, ◌++◌, length, Result, Ok, ◌==◌}
use Rattle.std.specs.Int.{w16}
use Rattle.std.specs.List.{list_all, flat_map, AllByRecursion}
use Rattle.mqtt_base.specs.Values.{two_bytes}
use Rattle.mqtt_base.specs.Reading.{◌>>=◌, number_at}
use Rattle.mqtt_base.specs.Items.{items_at}
use Rattle.mqtt_props.specs.declared.place.Place.TheVariants as places
use Rattle.mqtt_props.specs.Properties.{block}
use Rattle.mqtt_props.specs.Laws.{layout_at}
use Rattle.mqtt_packet.specs.declared.parts.fault.Fault.{Fault}
use Rattle.mqtt_packet.specs.declared.parts.fault.Fault.TheVariants.{Malformed}
use Rattle.mqtt_packet.specs.declared.subscribe.subscribe.Subscribe.{Subscribe}
use Rattle.mqtt_packet.specs.declared.subscribe.subscribe.SubscribeRef.{SubscribeRef}
use Rattle.mqtt_packet.specs.parts.Reading.{malformed}
use Rattle.mqtt_packet.specs.subscribe.Subscriptions.{subscription, IsSubscription, lawful_subscription, subscription_at}
use Rattle.mqtt_packet.specs.parts.Blocks.{Stands, keeps_laws}

-- its parts have a spelling
abbrev pub FitsSubscribe : Subscribe → Type 0
FitsSubscribe s = (s.identifier < 2 ^ 16) × Stands places.Subscribe s.properties × AllByRecursion IsSubscription s.subscriptions

-- its body: identifier, properties, and the filters with their options to the end (3.8.2, 3.8.3)
abbrev pub subscribe_body : Subscribe → List ℕ
subscribe_body s = two_bytes s.identifier ++ (block s.properties ++ flat_map subscription s.subscriptions)

-- its laws: those of its block and of its filters, of which there is one, and the identifier isn't 0 (2.2.1, 3.8.3)
abbrev pub lawful_subscribe : Subscribe → Bool
lawful_subscribe s =
    keeps_laws places.Subscribe s.properties
    && (nat_lt 0 s.identifier && (not (length s.subscriptions == 0) && list_all lawful_subscription s.subscriptions))

unfoldable pub subscribe_at : List ℕ → Result Subscribe Fault
subscribe_at body = do
  id ← malformed (number_at w16 body)
  ps ← malformed (layout_at places.Subscribe id.1)
  ws ← items_at Malformed subscription_at ps.1
  Ok (record { identifier = id.0; properties = ps.0; subscriptions = ws })

-- what is lent out of a frame
abbrev pub subscribe_of : SubscribeRef → Subscribe
subscribe_of s = record { identifier = s.identifier; properties = s.properties; subscriptions = s.subscriptions }

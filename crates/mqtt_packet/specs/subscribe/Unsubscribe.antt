-- The layout of UNSUBSCRIBE (MQTT 5.0, 3.10).
use Rattle.std.specs.Prelude.{ℕ, ◌<◌, ◌^◌, Bool, ◌&&◌, not, nat_lt, List, ◌++◌, length, Result, Ok, ◌==◌}
use Rattle.std.specs.Int.{w16}
use Rattle.std.specs.List.{flat_map, AllByRecursion}
use Rattle.mqtt_base.specs.Values.{two_bytes, blob, FitsText}
use Rattle.mqtt_base.specs.Reading.{◌>>=◌, number_at}
use Rattle.mqtt_base.specs.Items.{items_at}
use Rattle.mqtt_props.specs.declared.place.Place.TheVariants as places
use Rattle.mqtt_props.specs.Properties.{block}
use Rattle.mqtt_props.specs.Laws.{layout_at}
use Rattle.mqtt_packet.specs.declared.parts.fault.Fault.{Fault}
use Rattle.mqtt_packet.specs.declared.parts.fault.Fault.TheVariants.{Malformed}
use Rattle.mqtt_packet.specs.declared.subscribe.unsubscribe.Unsubscribe.{Unsubscribe}
use Rattle.mqtt_packet.specs.declared.subscribe.unsubscribe.UnsubscribeRef.{UnsubscribeRef}
use Rattle.mqtt_packet.specs.parts.Reading.{malformed}
use Rattle.mqtt_packet.specs.subscribe.Filters.{filter_at}
use Rattle.mqtt_packet.specs.parts.Blocks.{Stands, keeps_laws}

-- its parts have a spelling
abbrev pub FitsUnsubscribe : Unsubscribe → Type 0
FitsUnsubscribe u = (u.identifier < 2 ^ 16) × Stands places.Unsubscribe u.properties × AllByRecursion FitsText u.filters

-- its body: identifier, properties, and the filters to the end (3.10.2, 3.10.3)
abbrev pub unsubscribe_body : Unsubscribe → List ℕ
unsubscribe_body u = two_bytes u.identifier ++ (block u.properties ++ flat_map blob u.filters)

-- its laws: those of its block, the identifier isn't 0 (2.2.1), and there is a filter (3.10.3)
abbrev pub lawful_unsubscribe : Unsubscribe → Bool
lawful_unsubscribe u =
    keeps_laws places.Unsubscribe u.properties && (nat_lt 0 u.identifier && not (length u.filters == 0))

unfoldable pub unsubscribe_at : List ℕ → Result Unsubscribe Fault
unsubscribe_at body = do
  id ← malformed (number_at w16 body)
  ps ← malformed (layout_at places.Unsubscribe id.1)
  fs ← items_at Malformed filter_at ps.1
  Ok (record { identifier = id.0; properties = ps.0; filters = fs })

-- what is lent out of a frame
abbrev pub unsubscribe_of : UnsubscribeRef → Unsubscribe
unsubscribe_of u = record { identifier = u.identifier; properties = u.properties; filters = u.filters }

-- The layout of SUBACK and UNSUBACK (MQTT 5.0, 3.9, 3.11).
use Rattle.std.specs.Prelude.{◌≡◌, ℕ, ◌<◌, ◌^◌, Bool, true, ◌&&◌, not, nat_lt, List, ◌++◌, length, Result, Ok, Err, ◌==◌, if◌then◌else◌}
use Rattle.std.specs.Int.{w16}
use Rattle.std.specs.List.{list_all}
use Rattle.mqtt_base.specs.declared.kind.Kind.{Kind}
use Rattle.mqtt_base.specs.Values.{two_bytes}
use Rattle.mqtt_base.specs.Reading.{◌>>=◌, number_at}
use Rattle.mqtt_base.specs.Reasons.{is_code}
use Rattle.mqtt_props.specs.declared.place.Place.{Place}
use Rattle.mqtt_props.specs.Properties.{block}
use Rattle.mqtt_props.specs.Laws.{layout_at}
use Rattle.mqtt_packet.specs.declared.parts.fault.Fault.{Fault}
use Rattle.mqtt_packet.specs.declared.parts.fault.Fault.TheVariants.{Malformed}
use Rattle.mqtt_packet.specs.declared.codec.suback.Suback.{Suback}
use Rattle.mqtt_packet.specs.declared.codec.suback.SubackRef.{SubackRef}
use Rattle.mqtt_packet.specs.parts.Reading.{malformed}
use Rattle.mqtt_packet.specs.parts.Blocks.{Stands, keeps_laws}

abbrev pub are_codes : Kind → List ℕ → Bool
are_codes kind codes = list_all (is_code kind) codes

-- its parts have a spelling, with the codes and the properties of its packet
abbrev pub FitsSuback : Kind → Place → Suback → Type 0
FitsSuback kind place s = (s.identifier < 2 ^ 16) × Stands place s.properties × (are_codes kind s.codes ≡ true)

-- its body: identifier, properties, and a code for each filter to the end (3.9.2, 3.9.3)
abbrev pub suback_body : Suback → List ℕ
suback_body s = two_bytes s.identifier ++ (block s.properties ++ s.codes)

-- its laws: those of its block, the identifier isn't 0 (2.2.1), and there is a code (ours)
abbrev pub lawful_suback : Place → Suback → Bool
lawful_suback place s = keeps_laws place s.properties && (nat_lt 0 s.identifier && not (length s.codes == 0))

unfoldable pub suback_at : Kind → Place → List ℕ → Result Suback Fault
suback_at kind place body = do
  id ← malformed (number_at w16 body)
  ps ← malformed (layout_at place id.1)
  if are_codes kind ps.1 then Ok (record { identifier = id.0; properties = ps.0; codes = ps.1 }) else Err Malformed

-- what is lent out of a frame
abbrev pub suback_of : SubackRef → Suback
suback_of s = record { identifier = s.identifier; properties = s.properties; codes = s.codes.now }

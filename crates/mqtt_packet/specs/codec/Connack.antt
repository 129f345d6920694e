-- The layout of CONNACK (MQTT 5.0, 3.2).
use Rattle.std.specs.Prelude.{◌≡◌, ℕ, zero, suc, Bool, true, false, ◌&&◌, ◌||◌, not, List, ◌∷◌, length, Option, Some, None, Result, Ok, Err, ◌==◌, if◌then◌else◌}
use Rattle.mqtt_base.specs.declared.kind.Kind.TheVariants as kinds
use Rattle.mqtt_base.specs.Reading.{◌>>=◌, u8_at}
use Rattle.mqtt_base.specs.Codes.{success}
use Rattle.mqtt_base.specs.Reasons.{is_code}
use Rattle.mqtt_props.specs.declared.place.Place.TheVariants as places
use Rattle.mqtt_props.specs.Properties.{block}
use Rattle.mqtt_props.specs.Laws.{layout_at}
use Rattle.mqtt_packet.specs.declared.codec.connack.Connack.{Connack}
use Rattle.mqtt_packet.specs.declared.codec.connack.ConnackRef.{ConnackRef}
use Rattle.mqtt_packet.specs.declared.parts.fault.Fault.{Fault}
use Rattle.mqtt_packet.specs.declared.parts.fault.Fault.TheVariants.{Malformed}
use Rattle.mqtt_packet.specs.parts.Bits.{bit}
use Rattle.mqtt_packet.specs.parts.Reading.{malformed, known}
use Rattle.mqtt_packet.specs.parts.Blocks.{Stands, keeps_laws}

-- its parts have a spelling
abbrev pub FitsConnack : Connack → Type 0
FitsConnack c = (is_code kinds.Connack c.reason.0 ≡ true) × Stands places.Connack c.properties

-- its body: Session Present in bit 0, the code, properties (3.2.2)
abbrev pub connack_body : Connack → List ℕ
connack_body c = bit c.session_present ∷ (c.reason.0 ∷ block c.properties)

-- its laws: those of its block, and a code above 00 goes without Session Present (3.2.2.1.1, ours its code)
abbrev pub lawful_connack : Connack → Bool
lawful_connack c = keeps_laws places.Connack c.properties && (c.reason.0 == success || not c.session_present)

-- the Connect Acknowledge Flags, of which all bits but bit 0 are 0
abbrev pub session_present_of : ℕ → Option Bool
session_present_of zero = Some false
session_present_of (suc zero) = Some true
session_present_of (suc (suc n)) = None

unfoldable pub connack_at : List ℕ → Result Connack Fault
connack_at body = do
  f ← malformed (u8_at body)
  present ← known (session_present_of f.0)
  code ← malformed (u8_at f.1)
  ps ← malformed (layout_at places.Connack code.1)
  if length ps.1 == 0 && is_code kinds.Connack code.0 then Ok (record { session_present = present; reason = record { 0 = code.0 }; properties = ps.0 }) else Err Malformed

-- what is lent out of a frame
abbrev pub connack_of : ConnackRef → Connack
connack_of c = record { session_present = c.session_present; reason = c.reason; properties = c.properties }

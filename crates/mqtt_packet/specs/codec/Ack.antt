-- The layout of PUBACK, PUBREC, PUBREL and PUBCOMP (MQTT 5.0, 3.4 to 3.7).
use Rattle.std.specs.Prelude.{◌≡◌, ℕ, ◌<◌, ◌^◌, Bool, true, ◌&&◌, nat_lt, List, ◌++◌, Result, Ok, Err, if◌then◌else◌}
use Rattle.std.specs.Int.{w16}
use Rattle.mqtt_base.specs.declared.kind.Kind.{Kind}
use Rattle.mqtt_base.specs.Values.{two_bytes}
use Rattle.mqtt_base.specs.Reading.{◌>>=◌, number_at}
use Rattle.mqtt_base.specs.Reasons.{is_code}
use Rattle.mqtt_props.specs.declared.place.Place.{Place}
use Rattle.mqtt_packet.specs.declared.codec.ack.Ack.{Ack}
use Rattle.mqtt_packet.specs.declared.codec.ack.AckRef.{AckRef}
use Rattle.mqtt_packet.specs.declared.parts.fault.Fault.{Fault}
use Rattle.mqtt_packet.specs.declared.parts.fault.Fault.TheVariants.{Malformed}
use Rattle.mqtt_packet.specs.parts.Reading.{malformed}
use Rattle.mqtt_packet.specs.parts.Blocks.{Stands, keeps_laws}
use Rattle.mqtt_packet.specs.codec.Tails.{IsTail, tail, tail_at}

-- its parts have a spelling, with the codes and the properties of its packet
abbrev pub FitsAck : Kind → Place → Ack → Type 0
FitsAck kind place a = (a.identifier < 2 ^ 16) × (is_code kind a.reason.0 ≡ true) × Stands place a.properties

-- the bytes are a body of it: the identifier and a tail
abbrev pub IsAckBody : Ack → List ℕ → Type 0
IsAckBody a body = (rest : List ℕ) × (body ≡ two_bytes a.identifier ++ rest) × IsTail a.reason.0 a.properties rest

-- the shortest of them
abbrev pub ack_body : Ack → List ℕ
ack_body a = two_bytes a.identifier ++ tail a.reason.0 a.properties

-- its laws: those of its block, and the identifier isn't 0 (2.2.1)
abbrev pub lawful_ack : Place → Ack → Bool
lawful_ack place a = keeps_laws place a.properties && nat_lt 0 a.identifier

unfoldable pub ack_at : Kind → Place → List ℕ → Result Ack Fault
ack_at kind place body = do
  id ← malformed (number_at w16 body)
  t ← tail_at place id.1
  if is_code kind t.0 then Ok (record { identifier = id.0; reason = record { 0 = t.0 }; properties = t.1 }) else Err Malformed

-- what is lent out of a frame
abbrev pub ack_of : AckRef → Ack
ack_of a = record { identifier = a.identifier; reason = a.reason; properties = a.properties }

-- The layouts of DISCONNECT and AUTH (MQTT 5.0, 3.14, 3.15).
use Rattle.std.specs.Prelude.{◌≡◌, ℕ, Bool, true, ◌&&◌, ◌||◌, List, [], ◌∷◌, length, Result, Ok, Err, ◌==◌, if◌then◌else◌}
use Rattle.mqtt_base.specs.declared.kind.Kind.{Kind}
use Rattle.mqtt_base.specs.declared.kind.Kind.TheVariants as kinds
use Rattle.mqtt_base.specs.Reading.{◌>>=◌}
use Rattle.mqtt_base.specs.Codes.{success}
use Rattle.mqtt_base.specs.Reasons.{is_code}
use Rattle.mqtt_props.specs.declared.place.Place.{Place}
use Rattle.mqtt_props.specs.declared.place.Place.TheVariants as places
use Rattle.mqtt_props.specs.declared.table.PropName.TheVariants.{AuthenticationMethod}
use Rattle.mqtt_props.specs.Properties.{Prop, block}
use Rattle.mqtt_props.specs.Laws.{layout_at, has}
use Rattle.mqtt_packet.specs.declared.codec.notice.Notice.{Notice}
use Rattle.mqtt_packet.specs.declared.codec.notice.NoticeRef.{NoticeRef}
use Rattle.mqtt_packet.specs.declared.parts.fault.Fault.{Fault}
use Rattle.mqtt_packet.specs.declared.parts.fault.Fault.TheVariants.{Malformed}
use Rattle.mqtt_packet.specs.parts.Reading.{malformed}
use Rattle.mqtt_packet.specs.parts.Blocks.{Stands, keeps_laws}
use Rattle.mqtt_packet.specs.codec.Tails.{tail, tail_at}

-- its parts have a spelling, with the codes and the properties of its packet
abbrev pub FitsNotice : Kind → Place → Notice → Type 0
FitsNotice kind place n = (is_code kind n.reason.0 ≡ true) × Stands place n.properties

-- ---- DISCONNECT: a tail alone (3.14.2)

unfoldable pub disconnect_at : List ℕ → Result Notice Fault
disconnect_at body = do
  t ← tail_at places.Disconnect body
  if is_code kinds.Disconnect t.0 then Ok (record { reason = record { 0 = t.0 }; properties = t.1 }) else Err Malformed

abbrev pub disconnect_body : Notice → List ℕ
disconnect_body n = tail n.reason.0 n.properties

-- ---- AUTH: nothing, which stands for the code 00, or a code and properties (3.15.2; a code alone is malformed, ours)

abbrev pub IsAuthBody : Notice → List ℕ → Type 0
IsAuthBody n [] = (n.reason.0 ≡ success) × (n.properties ≡ [])
IsAuthBody n (c ∷ rest) = (c ≡ n.reason.0) × (rest ≡ block n.properties)

abbrev pub auth_body_of : ℕ → List Prop → List ℕ
auth_body_of code [] = if code == success then [] else code ∷ block []
auth_body_of code (p ∷ ps) = code ∷ block (p ∷ ps)

abbrev pub auth_body : Notice → List ℕ
auth_body n = auth_body_of n.reason.0 n.properties

-- the laws of DISCONNECT: those of its block
abbrev pub lawful_disconnect : Notice → Bool
lawful_disconnect n = keeps_laws places.Disconnect n.properties

-- an AUTH with another code or with a property has an Authentication Method (ours)
abbrev pub lawful_auth : Notice → Bool
lawful_auth n =
    keeps_laws places.Auth n.properties
    && ((n.reason.0 == success && length n.properties == 0) || has AuthenticationMethod n.properties)

unfoldable pub auth_at : List ℕ → Result Notice Fault
auth_at [] = Ok (record { reason = record { 0 = success }; properties = [] })
auth_at (c ∷ rest) = do
  ps ← malformed (layout_at places.Auth rest)
  if length ps.1 == 0 && is_code kinds.Auth c then Ok (record { reason = record { 0 = c }; properties = ps.0 }) else Err Malformed

-- what is lent out of a frame
abbrev pub notice_of : NoticeRef → Notice
notice_of n = record { reason = n.reason; properties = n.properties }

-- The layout of CONNECT (MQTT 5.0, 3.1).
use Rattle.std.specs.Prelude.{ℕ, ◌<◌, ◌^◌, Bool, true, ◌&&◌, List, ◌∷◌, ◌++◌, length, codes, bytes_eq, Option, Some, None, is_some, Result, Ok, Err, ◌==◌, if◌then◌else◌}
use Rattle.std.specs.Int.{w16}
use Rattle.std.specs.Option.{option_map}
use Rattle.mqtt_base.specs.Values.{two_bytes, blob, FitsText}
use Rattle.mqtt_base.specs.Reading.{◌>>=◌, number_at, u8_at, text_at, blob_at}
use Rattle.mqtt_props.specs.declared.place.Place.TheVariants as places
use Rattle.mqtt_props.specs.Properties.{block}
use Rattle.mqtt_props.specs.Laws.{layout_at}
use Rattle.mqtt_packet.specs.declared.connect.connect.Connect.{Connect}
use Rattle.mqtt_packet.specs.declared.connect.connect.ConnectRef.{ConnectRef}
use Rattle.mqtt_packet.specs.declared.connect.connect.Will.{Will}
use Rattle.mqtt_packet.specs.declared.connect.connect.WillRef.{WillRef}
use Rattle.mqtt_packet.specs.declared.connect.connect_flags.Flags.{Flags}
use Rattle.mqtt_packet.specs.declared.connect.connect_flags.WillFlags.{WillFlags}
use Rattle.mqtt_packet.specs.declared.parts.fault.Fault.{Fault}
use Rattle.mqtt_packet.specs.declared.parts.fault.Fault.TheVariants.{Malformed}
use Rattle.mqtt_packet.specs.parts.Reading.{malformed, known}
use Rattle.mqtt_packet.specs.parts.Fields.{optional_at, field_at, optional, FitsOptional}
use Rattle.mqtt_packet.specs.connect.ConnectFlags.{flags_of, flags_byte}
use Rattle.mqtt_packet.specs.parts.Blocks.{Stands, keeps_laws}

-- ---- the Will (3.1.3.2 to 3.1.3.4)

abbrev pub FitsWill : Will → Type 0
FitsWill w = Stands places.Will w.properties × FitsText w.topic × (length w.payload < 2 ^ 16)

abbrev pub will_field : Will → List ℕ
will_field w = block w.properties ++ (blob w.topic ++ blob w.payload)

abbrev pub will_flags_of : Will → WillFlags
will_flags_of w = record { qos = w.qos; retain = w.retain }

-- ---- the packet

abbrev pub flags_of_connect : Connect → Flags
flags_of_connect c = record { clean_start = c.clean_start; will = option_map will_flags_of c.will; user_name = is_some c.user_name; password = is_some c.password }

-- its parts have a spelling
abbrev pub FitsConnect : Connect → Type 0
FitsConnect c =
    (c.keep_alive < 2 ^ 16) × Stands places.Connect c.properties × FitsText c.client_identifier
    × FitsOptional FitsWill c.will × FitsOptional FitsText c.user_name × FitsOptional (λ p. length p < 2 ^ 16) c.password

-- the payload: Client Identifier, and what the flags say (3.1.3)
abbrev pub connect_payload : Connect → List ℕ
connect_payload c =
    blob c.client_identifier ++ (optional will_field c.will ++ (optional blob c.user_name ++ optional blob c.password))

-- what follows the flags: Keep Alive, properties, and the payload (3.1.2.10, 3.1.2.11, 3.1.3)
abbrev pub connect_fields : Connect → List ℕ
connect_fields c = two_bytes c.keep_alive ++ (block c.properties ++ connect_payload c)

-- the protocol's name (3.1.2.1)
abbrev pub mqtt : List ℕ
mqtt = codes "MQTT"

-- its body: the protocol's name, the version 5, the flags and the fields (3.1.2)
abbrev pub connect_body : Connect → List ℕ
connect_body c = blob mqtt ++ (5 ∷ (flags_byte (flags_of_connect c) ∷ connect_fields c))

abbrev pub lawful_will : Option Will → Bool
lawful_will None = true
lawful_will (Some w) = keeps_laws places.Will w.properties

-- its laws: those of its blocks
abbrev pub lawful_connect : Connect → Bool
lawful_connect c = keeps_laws places.Connect c.properties && lawful_will c.will

-- ---- reading

abbrev pub is_version_5 : List ℕ → ℕ → Bool
is_version_5 protocol version = bytes_eq protocol mqtt && version == 5

unfoldable pub will_at : Option WillFlags → List ℕ → Result (Option Will × List ℕ) Fault
will_at None bytes = Ok (None, bytes)
will_at (Some f) bytes = do
  ps ← malformed (layout_at places.Will bytes)
  topic ← malformed (text_at ps.1)
  payload ← malformed (blob_at topic.1)
  Ok (Some (record { qos = f.qos; retain = f.retain; properties = ps.0; topic = topic.0; payload = payload.0 }), payload.1)

unfoldable pub user_name_at : Bool → List ℕ → Result (Option (List ℕ) × List ℕ) Fault
user_name_at flag bytes = optional_at flag (field_at text_at) bytes

unfoldable pub password_at : Bool → List ℕ → Result (Option (List ℕ) × List ℕ) Fault
password_at flag bytes = optional_at flag (field_at blob_at) bytes

-- User Name and Password, and nothing behind them (3.1.3.5, 3.1.3.6)
abbrev pub login_at : Flags → List ℕ → Result (Option (List ℕ) × Option (List ℕ)) Fault
login_at f bytes = do
  user ← user_name_at f.user_name bytes
  password ← password_at f.password user.1
  if length password.1 == 0 then Ok (user.0, password.0) else Err Malformed

-- Client Identifier, Will, User Name and Password (3.1.3)
abbrev pub payload_at : Flags → List ℕ → Result (List ℕ × Option Will × Option (List ℕ) × Option (List ℕ)) Fault
payload_at f bytes = do
  client ← malformed (text_at bytes)
  will ← will_at f.will client.1
  login ← login_at f will.1
  Ok (client.0, will.0, login.0, login.1)

unfoldable pub fields_at : Flags → List ℕ → Result Connect Fault
fields_at f bytes = do
  keep ← malformed (number_at w16 bytes)
  ps ← malformed (layout_at places.Connect keep.1)
  p ← payload_at f ps.1
  Ok (record { clean_start = f.clean_start; keep_alive = keep.0; properties = ps.0; client_identifier = p.0; will = p.1; user_name = p.2; password = p.3 })

-- the flags and what follows them
abbrev pub flagged_at : List ℕ → Result Connect Fault
flagged_at bytes = do
  byte ← malformed (u8_at bytes)
  flags ← known (flags_of byte.0)
  fields_at flags byte.1

unfoldable pub connect_at : List ℕ → Result Connect Fault
connect_at body = do
  protocol ← malformed (text_at body)
  version ← malformed (u8_at protocol.1)
  if is_version_5 protocol.0 version.0 then flagged_at version.1 else Err Malformed

-- ---- what is lent out of a frame

abbrev pub will_of : WillRef → Will
will_of w = record { qos = w.qos; retain = w.retain; properties = w.properties; topic = w.topic.now; payload = w.payload.now }

abbrev pub connect_of : ConnectRef → Connect
connect_of c = record { clean_start = c.clean_start; keep_alive = c.keep_alive; properties = c.properties; client_identifier = c.client_identifier.now; will = option_map will_of c.will; user_name = option_map (λ t. t.now) c.user_name; password = option_map (λ p. p.now) c.password }

-- The JSON of texts, properties, Wills and User Names (RFC 8259; ours).
use Rattle.std.specs.Prelude.{ℕ, ◌==◌, ◌||◌, nat_lt, Bool, true, false, if◌then◌else◌, List, [], ◌∷◌, ◌++◌, length, Option, None, Some, codes}
use Rattle.std.specs.List.{flat_map}
use Rattle.std.specs.Fmt.{decimal}
use Rattle.hex.specs.Hex.{encode_lower}
use Rattle.mqtt_base.specs.Escaped.{hex_byte}
use Rattle.mqtt_base.specs.Service.{qos_number}
use Rattle.mqtt_props.specs.Properties.{Prop, Value, Byte, U16, U32, VarInt, Text, Binary, Pair}
use Rattle.mqtt_packet.specs.declared.connect.connect.Will.{Will}
use Rattle.mqtt_cli.specs.viewer.PropertyText.{property_name}

-- ---- values

abbrev pub quote : ℕ
quote = 0x22

abbrev pub backslash : ℕ
backslash = 0x5c

-- the quote and the backslash have a backslash in front, a control character is its number, any other byte is itself
abbrev pub json_byte : ℕ → List ℕ
json_byte b =
    if b == quote || b == backslash then backslash ∷ b ∷ []
    else if nat_lt b 0x20 then codes "\\u00" ++ hex_byte b
    else b ∷ []

-- a text between quotes
abbrev pub json_text : List ℕ → List ℕ
json_text text = codes "\"" ++ flat_map json_byte text ++ codes "\""

abbrev pub json_bool : Bool → List ℕ
json_bool false = codes "false"
json_bool true = codes "true"

-- bytes in hexadecimal, between quotes
abbrev pub json_bytes : List ℕ → List ℕ
json_bytes bytes = codes "\"" ++ encode_lower bytes ++ codes "\""

-- ---- properties

-- a number, a text, binary data in hexadecimal, or a pair of texts
abbrev pub json_value : Value → List ℕ
json_value (Byte n) = decimal n
json_value (U16 n) = decimal n
json_value (U32 n) = decimal n
json_value (VarInt n) = decimal n
json_value (Text t) = json_text t
json_value (Binary b) = json_bytes b
json_value (Pair key t) = codes "[" ++ json_text key ++ codes "," ++ json_text t ++ codes "]"

-- the name that the lines of text give it, and its value
abbrev pub json_property : Prop → List ℕ
json_property p = codes "{\"name\":\"" ++ property_name p.name ++ codes "\",\"value\":" ++ json_value p.value ++ codes "}"

abbrev pub json_next_property : Prop → List ℕ
json_next_property p = codes "," ++ json_property p

-- each in its place, commas between them
abbrev pub json_property_list : List Prop → List ℕ
json_property_list [] = []
json_property_list (p ∷ ps) = json_property p ++ flat_map json_next_property ps

-- the last member of a packet, and of a Will
abbrev pub json_properties : List Prop → List ℕ
json_properties ps = codes ",\"properties\":[" ++ json_property_list ps ++ codes "]"

-- ---- the Will and the User Name of a CONNECT

abbrev pub json_will_head : Will → List ℕ
json_will_head w = codes "{\"qos\":" ++ decimal (qos_number w.qos) ++ codes ",\"retain\":" ++ json_bool w.retain

-- its topic, how long its payload is, and its properties
abbrev pub json_will_message : Will → List ℕ
json_will_message w =
    codes ",\"topic\":" ++ json_text w.topic ++ codes ",\"payload\":" ++ decimal (length w.payload) ++ json_properties w.properties

abbrev pub json_will : Option Will → List ℕ
json_will None = codes "null"
json_will (Some w) = json_will_head w ++ json_will_message w ++ codes "}"

abbrev pub json_user_name : Option (List ℕ) → List ℕ
json_user_name None = codes "null"
json_user_name (Some name) = json_text name

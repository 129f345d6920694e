-- What the viewer shows of properties, of a Will and of a User Name, where that is asked for (2.2.2, 3.1.3; ours).
use Rattle.std.specs.Prelude.{ℕ, ◌==◌, Bool, true, false, if◌then◌else◌, List, [], ◌++◌, length, Option, None, Some, codes}
use Rattle.std.specs.List.{flat_map}
use Rattle.std.specs.Fmt.{decimal}
use Rattle.hex.specs.Hex.{encode_lower}
use Rattle.mqtt_base.specs.Escaped.{escaped, escaped_byte}
use Rattle.mqtt_base.specs.Service.{qos_number}
use Rattle.mqtt_props.specs.declared.table.PropName.{PropName}
use Rattle.mqtt_props.specs.declared.table.PropName.TheVariants.{PayloadFormatIndicator, MessageExpiryInterval, ContentType, ResponseTopic, CorrelationData, SubscriptionIdentifier, SessionExpiryInterval, AssignedClientIdentifier, ServerKeepAlive, AuthenticationMethod, AuthenticationData, RequestProblemInformation, WillDelayInterval, RequestResponseInformation, ResponseInformation, ServerReference, ReasonString, ReceiveMaximum, TopicAliasMaximum, TopicAlias, MaximumQos, RetainAvailable, UserProperty, MaximumPacketSize, WildcardSubscriptionAvailable, SubscriptionIdentifierAvailable, SharedSubscriptionAvailable}
use Rattle.mqtt_props.specs.Properties.{Prop, Value, Byte, U16, U32, VarInt, Text, Binary, Pair}
use Rattle.mqtt_packet.specs.declared.connect.connect.Connect.{Connect}
use Rattle.mqtt_packet.specs.declared.connect.connect.Will.{Will}
use Rattle.mqtt_packet.specs.declared.codec.packet.Packet.{Packet}
use Rattle.mqtt_packet.specs.declared.codec.packet.Packet.TheVariants as packets
use Rattle.mqtt_packet.specs.codec.Packets.{properties_of}

-- ---- a property

-- the standard's name of a property, in small letters with hyphens (Table 2-4)
abbrev pub property_name : PropName → List ℕ
property_name PayloadFormatIndicator = codes "payload-format-indicator"
property_name MessageExpiryInterval = codes "message-expiry-interval"
property_name ContentType = codes "content-type"
property_name ResponseTopic = codes "response-topic"
property_name CorrelationData = codes "correlation-data"
property_name SubscriptionIdentifier = codes "subscription-identifier"
property_name SessionExpiryInterval = codes "session-expiry-interval"
property_name AssignedClientIdentifier = codes "assigned-client-identifier"
property_name ServerKeepAlive = codes "server-keep-alive"
property_name AuthenticationMethod = codes "authentication-method"
property_name AuthenticationData = codes "authentication-data"
property_name RequestProblemInformation = codes "request-problem-information"
property_name WillDelayInterval = codes "will-delay-interval"
property_name RequestResponseInformation = codes "request-response-information"
property_name ResponseInformation = codes "response-information"
property_name ServerReference = codes "server-reference"
property_name ReasonString = codes "reason-string"
property_name ReceiveMaximum = codes "receive-maximum"
property_name TopicAliasMaximum = codes "topic-alias-maximum"
property_name TopicAlias = codes "topic-alias"
property_name MaximumQos = codes "maximum-qos"
property_name RetainAvailable = codes "retain-available"
property_name UserProperty = codes "user-property"
property_name MaximumPacketSize = codes "maximum-packet-size"
property_name WildcardSubscriptionAvailable = codes "wildcard-subscription-available"
property_name SubscriptionIdentifierAvailable = codes "subscription-identifier-available"
property_name SharedSubscriptionAvailable = codes "shared-subscription-available"

abbrev pub colon : ℕ
colon = 0x3a

-- a byte of a pair's name: a colon is escaped too, since one ends the name
abbrev pub key_byte : ℕ → List ℕ
key_byte b = if b == colon then codes "%3a" else escaped_byte b

abbrev pub key_text : List ℕ → List ℕ
key_text key = flat_map key_byte key

-- a number in decimal digits, a text in one word, binary data in hexadecimal, a pair with a colon behind its name
abbrev pub value_text : Value → List ℕ
value_text (Byte n) = decimal n
value_text (U16 n) = decimal n
value_text (U32 n) = decimal n
value_text (VarInt n) = decimal n
value_text (Text t) = escaped t
value_text (Binary b) = encode_lower b
value_text (Pair key t) = key_text key ++ codes ":" ++ escaped t

-- whose property it is
abbrev pub owner_text : Bool → List ℕ
owner_text false = codes " "
owner_text true = codes " will."

-- ` NAME=VALUE`, and ` will.NAME=VALUE` of a Will
abbrev pub property_text : Bool → Prop → List ℕ
property_text of_will p = owner_text of_will ++ property_name p.name ++ codes "=" ++ value_text p.value

-- each in its place
abbrev pub properties_text : Bool → List Prop → List ℕ
properties_text of_will ps = flat_map (property_text of_will) ps

-- ---- the Will and the User Name of a CONNECT

abbrev pub will_retain_text : Bool → List ℕ
will_retain_text false = []
will_retain_text true = codes " will.retain"

-- its topic, how long its payload is, and its properties
abbrev pub will_message_text : Will → List ℕ
will_message_text w =
    (codes " will.topic=" ++ escaped w.topic) ++ ((codes " will.payload=" ++ decimal (length w.payload)) ++ properties_text true w.properties)

-- its QoS, whether it is retained, and its message
abbrev pub will_text : Will → List ℕ
will_text w = (codes " will.qos=" ++ decimal (qos_number w.qos)) ++ (will_retain_text w.retain ++ will_message_text w)

abbrev pub optional_will_text : Option Will → List ℕ
optional_will_text None = []
optional_will_text (Some w) = will_text w

abbrev pub user_name_text : Option (List ℕ) → List ℕ
user_name_text None = []
user_name_text (Some name) = codes " user-name=" ++ escaped name

abbrev pub login_text : Connect → List ℕ
login_text c = optional_will_text c.will ++ user_name_text c.user_name

-- ---- any packet

-- of a CONNECT its Will and its User Name
abbrev pub connection_text : Packet → List ℕ
connection_text (packets.Connect c) = login_text c
connection_text p = []

-- the properties of a packet, and what a CONNECT has beside them, if they are asked for
abbrev pub details_text : Bool → Packet → List ℕ
details_text false p = []
details_text true p = properties_text false (properties_of p) ++ connection_text p

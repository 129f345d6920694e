-- What the viewer shows of a packet: its name, its size, its fields, its properties and the beginning of its payload (ours).
use Rattle.std.specs.Prelude.{ℕ, ◌==◌, Bool, true, false, if◌then◌else◌, List, [], ◌∷◌, ◌++◌, length, take, codes, is_some}
use Rattle.std.specs.List.{flat_map}
use Rattle.std.specs.Fmt.{decimal}
use Rattle.hex.specs.Hex.{encode_lower}
use Rattle.mqtt_base.specs.Escaped.{escaped, hex_byte}
use Rattle.mqtt_packet.specs.declared.codec.ack.Ack.{Ack}
use Rattle.mqtt_packet.specs.declared.codec.connack.Connack.{Connack}
use Rattle.mqtt_packet.specs.declared.connect.connect.Connect.{Connect}
use Rattle.mqtt_packet.specs.declared.codec.notice.Notice.{Notice}
use Rattle.mqtt_packet.specs.declared.codec.publish.Delivery.{Delivery}
use Rattle.mqtt_packet.specs.declared.codec.publish.Delivery.TheVariants.{AtMostOnce, AtLeastOnce, ExactlyOnce}
use Rattle.mqtt_packet.specs.declared.codec.publish.Publish.{Publish}
use Rattle.mqtt_packet.specs.declared.codec.suback.Suback.{Suback}
use Rattle.mqtt_packet.specs.declared.subscribe.subscribe.Subscribe.{Subscribe}
use Rattle.mqtt_packet.specs.declared.subscribe.unsubscribe.Unsubscribe.{Unsubscribe}
use Rattle.mqtt_packet.specs.declared.codec.packet.Packet.{Packet}
use Rattle.mqtt_packet.specs.declared.codec.packet.Packet.TheVariants as packets
use Rattle.mqtt_packet.specs.parts.Bits.{bit}
use Rattle.mqtt_packet.specs.codec.Packets.{properties_of}
use Rattle.mqtt_packet.specs.subscribe.Subscriptions.{Subscription}
use Rattle.mqtt_cli.specs.declared.viewer.details.Details.{Details}
use Rattle.mqtt_cli.specs.declared.viewer.packet_text.TheConstants.{HEAD_SIZE}
use Rattle.mqtt_cli.specs.viewer.PropertyText.{details_text}

-- ---- texts of packets

-- 0 or 1
abbrev pub digit_text : Bool → List ℕ
digit_text b = decimal (bit b)

-- ---- the fields of each kind

abbrev pub connect_text : Connect → List ℕ
connect_text c =
    codes " client=" ++ escaped c.client_identifier ++ codes " clean=" ++ digit_text c.clean_start
    ++ codes " keep=" ++ decimal c.keep_alive ++ codes " will=" ++ digit_text (is_some c.will)

abbrev pub connack_text : Connack → List ℕ
connack_text c = codes " present=" ++ digit_text c.session_present ++ codes " code=" ++ hex_byte c.reason.0

abbrev pub dup_text : Bool → List ℕ
dup_text false = []
dup_text true = codes " dup"

abbrev pub retain_text : Bool → List ℕ
retain_text false = []
retain_text true = codes " retain"

-- the QoS, and above 0 the packet identifier and DUP
abbrev pub delivery_text : Delivery → List ℕ
delivery_text AtMostOnce = codes " qos=0"
delivery_text (AtLeastOnce dup id) = codes " qos=1 id=" ++ decimal id ++ dup_text dup
delivery_text (ExactlyOnce dup id) = codes " qos=2 id=" ++ decimal id ++ dup_text dup

abbrev pub publish_text : Publish → List ℕ
publish_text p =
    delivery_text p.delivery ++ retain_text p.retain ++ codes " topic=" ++ escaped p.topic
    ++ codes " payload=" ++ decimal (length p.payload)

abbrev pub ack_text : Ack → List ℕ
ack_text a = codes " id=" ++ decimal a.identifier ++ codes " code=" ++ hex_byte a.reason.0

abbrev pub subscription_text : Subscription → List ℕ
subscription_text s = codes " filter=" ++ escaped s.filter ++ codes ":" ++ hex_byte s.options

abbrev pub subscribe_text : Subscribe → List ℕ
subscribe_text s = codes " id=" ++ decimal s.identifier ++ flat_map subscription_text s.subscriptions

abbrev pub comma : ℕ
comma = 0x2c

abbrev pub next_code : ℕ → List ℕ
next_code c = comma ∷ hex_byte c

-- the codes, commas between them
abbrev pub codes_text : List ℕ → List ℕ
codes_text [] = []
codes_text (c ∷ cs) = hex_byte c ++ flat_map next_code cs

abbrev pub suback_text : Suback → List ℕ
suback_text s = codes " id=" ++ decimal s.identifier ++ codes " codes=" ++ codes_text s.codes

abbrev pub filter_text : List ℕ → List ℕ
filter_text f = codes " filter=" ++ escaped f

abbrev pub unsubscribe_text : Unsubscribe → List ℕ
unsubscribe_text u = codes " id=" ++ decimal u.identifier ++ flat_map filter_text u.filters

abbrev pub notice_text : Notice → List ℕ
notice_text n = codes " code=" ++ hex_byte n.reason.0

-- ---- any packet

abbrev pub name_text : Packet → List ℕ
name_text (packets.Connect c) = codes "CONNECT"
name_text (packets.Connack c) = codes "CONNACK"
name_text (packets.Publish p) = codes "PUBLISH"
name_text (packets.Puback a) = codes "PUBACK"
name_text (packets.Pubrec a) = codes "PUBREC"
name_text (packets.Pubrel a) = codes "PUBREL"
name_text (packets.Pubcomp a) = codes "PUBCOMP"
name_text (packets.Subscribe s) = codes "SUBSCRIBE"
name_text (packets.Suback s) = codes "SUBACK"
name_text (packets.Unsubscribe u) = codes "UNSUBSCRIBE"
name_text (packets.Unsuback s) = codes "UNSUBACK"
name_text packets.Pingreq = codes "PINGREQ"
name_text packets.Pingresp = codes "PINGRESP"
name_text (packets.Disconnect n) = codes "DISCONNECT"
name_text (packets.Auth n) = codes "AUTH"

abbrev pub fields_text : Packet → List ℕ
fields_text (packets.Connect c) = connect_text c
fields_text (packets.Connack c) = connack_text c
fields_text (packets.Publish p) = publish_text p
fields_text (packets.Puback a) = ack_text a
fields_text (packets.Pubrec a) = ack_text a
fields_text (packets.Pubrel a) = ack_text a
fields_text (packets.Pubcomp a) = ack_text a
fields_text (packets.Subscribe s) = subscribe_text s
fields_text (packets.Suback s) = suback_text s
fields_text (packets.Unsubscribe u) = unsubscribe_text u
fields_text (packets.Unsuback s) = suback_text s
fields_text packets.Pingreq = []
fields_text packets.Pingresp = []
fields_text (packets.Disconnect n) = notice_text n
fields_text (packets.Auth n) = notice_text n

-- how many properties the packet's own block has, and not a Will's, if there are some
abbrev pub count_text : ℕ → List ℕ
count_text n = if n == 0 then [] else codes " props=" ++ decimal n

-- the first bytes of a payload, in hexadecimal, if they are asked for
abbrev pub head_text : Bool → List ℕ → List ℕ
head_text false payload = []
head_text true payload = codes " head=" ++ encode_lower (take HEAD_SIZE payload)

abbrev pub payload_text : Bool → Packet → List ℕ
payload_text with_payload (packets.Publish p) = head_text with_payload p.payload
payload_text with_payload p = []

-- in words, no more than the fields, and how many properties there are
abbrev pub fields_alone : Details
fields_alone = record { payload = false; properties = false; json = false }

-- a packet of this size, without its place
abbrev pub packet_text : Details → ℕ → Packet → List ℕ
packet_text details size p =
    codes " " ++ name_text p ++ codes " " ++ decimal size ++ fields_text p
    ++ count_text (length (properties_of p)) ++ details_text details.properties p ++ payload_text details.payload p

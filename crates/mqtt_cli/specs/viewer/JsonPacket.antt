-- What the viewer shows of a packet as one JSON object, where that is asked for (ours).
use Rattle.std.specs.Prelude.{ℕ, ◌/◌, ◌%◌, ◌==◌, Bool, true, false, List, [], ◌∷◌, ◌++◌, length, take, codes}
use Rattle.std.specs.List.{flat_map}
use Rattle.std.specs.Fmt.{decimal}
use Rattle.mqtt_packet.specs.declared.parts.fault.Fault.{Fault}
use Rattle.mqtt_packet.specs.declared.parts.fault.Fault.TheVariants as faults
use Rattle.mqtt_packet.specs.declared.codec.ack.Ack.{Ack}
use Rattle.mqtt_packet.specs.declared.codec.connack.Connack.{Connack}
use Rattle.mqtt_packet.specs.declared.connect.connect.Connect.{Connect}
use Rattle.mqtt_packet.specs.declared.codec.publish.Delivery.{Delivery}
use Rattle.mqtt_packet.specs.declared.codec.publish.Delivery.TheVariants.{AtMostOnce, AtLeastOnce, ExactlyOnce}
use Rattle.mqtt_packet.specs.declared.codec.publish.Publish.{Publish}
use Rattle.mqtt_packet.specs.declared.codec.suback.Suback.{Suback}
use Rattle.mqtt_packet.specs.declared.subscribe.subscribe.Subscribe.{Subscribe}
use Rattle.mqtt_packet.specs.declared.subscribe.unsubscribe.Unsubscribe.{Unsubscribe}
use Rattle.mqtt_packet.specs.declared.codec.packet.Packet.{Packet}
use Rattle.mqtt_packet.specs.declared.codec.packet.Packet.TheVariants as packets
use Rattle.mqtt_packet.specs.codec.Packets.{properties_of}
use Rattle.mqtt_packet.specs.subscribe.Subscriptions.{Subscription}
use Rattle.mqtt_packet.specs.stream.Stream.{Item}
use Rattle.mqtt_cli.specs.declared.viewer.packet_text.TheConstants.{HEAD_SIZE}
use Rattle.mqtt_cli.specs.viewer.JsonValues.{json_bool, json_bytes, json_properties, json_text, json_user_name, json_will}
use Rattle.mqtt_cli.specs.viewer.PacketText.{name_text}

-- ---- the members of each kind, a comma before each

abbrev pub json_id : ℕ → List ℕ
json_id id = codes ",\"id\":" ++ decimal id

abbrev pub json_code : ℕ → List ℕ
json_code code = codes ",\"code\":" ++ decimal code

abbrev pub json_login : Connect → List ℕ
json_login c = codes ",\"will\":" ++ json_will c.will ++ codes ",\"user-name\":" ++ json_user_name c.user_name

abbrev pub json_connect : Connect → List ℕ
json_connect c =
    codes ",\"client\":" ++ json_text c.client_identifier ++ codes ",\"clean\":" ++ json_bool c.clean_start
    ++ codes ",\"keep\":" ++ decimal c.keep_alive ++ json_login c

abbrev pub json_connack : Connack → List ℕ
json_connack c = codes ",\"present\":" ++ json_bool c.session_present ++ json_code c.reason.0

-- what stands in front of a packet identifier, the identifier and DUP
abbrev pub json_identified : List ℕ → ℕ → Bool → List ℕ
json_identified front id dup = front ++ decimal id ++ codes ",\"dup\":" ++ json_bool dup

-- the QoS, the packet identifier and DUP; at QoS 0 there is neither
abbrev pub json_delivery : Delivery → List ℕ
json_delivery AtMostOnce = codes ",\"qos\":0,\"id\":null,\"dup\":false"
json_delivery (AtLeastOnce dup id) = json_identified (codes ",\"qos\":1,\"id\":") id dup
json_delivery (ExactlyOnce dup id) = json_identified (codes ",\"qos\":2,\"id\":") id dup

abbrev pub json_publish : Publish → List ℕ
json_publish p =
    json_delivery p.delivery ++ codes ",\"retain\":" ++ json_bool p.retain ++ codes ",\"topic\":" ++ json_text p.topic
    ++ codes ",\"payload\":" ++ decimal (length p.payload)

abbrev pub json_ack : Ack → List ℕ
json_ack a = json_id a.identifier ++ json_code a.reason.0

-- what the options of a subscription say (3.8.3.1)
abbrev pub json_options : ℕ → List ℕ
json_options o =
    codes ",\"qos\":" ++ decimal (o % 4) ++ codes ",\"no-local\":" ++ json_bool (o / 4 % 2 == 1)
    ++ codes ",\"retain-as-published\":" ++ json_bool (o / 8 % 2 == 1) ++ codes ",\"retain-handling\":" ++ decimal (o / 16)

abbrev pub json_subscription : Subscription → List ℕ
json_subscription s = codes "{\"filter\":" ++ json_text s.filter ++ json_options s.options ++ codes "}"

abbrev pub json_next_subscription : Subscription → List ℕ
json_next_subscription s = codes "," ++ json_subscription s

abbrev pub json_subscriptions : List Subscription → List ℕ
json_subscriptions [] = []
json_subscriptions (s ∷ ss) = json_subscription s ++ flat_map json_next_subscription ss

abbrev pub json_subscribe : Subscribe → List ℕ
json_subscribe s = json_id s.identifier ++ codes ",\"filters\":[" ++ json_subscriptions s.subscriptions ++ codes "]"

abbrev pub json_next_code : ℕ → List ℕ
json_next_code c = codes "," ++ decimal c

abbrev pub json_codes : List ℕ → List ℕ
json_codes [] = []
json_codes (c ∷ cs) = decimal c ++ flat_map json_next_code cs

abbrev pub json_suback : Suback → List ℕ
json_suback s = json_id s.identifier ++ codes ",\"codes\":[" ++ json_codes s.codes ++ codes "]"

abbrev pub json_filter : List ℕ → List ℕ
json_filter f = codes "{\"filter\":" ++ json_text f ++ codes "}"

abbrev pub json_next_filter : List ℕ → List ℕ
json_next_filter f = codes "," ++ json_filter f

abbrev pub json_filters : List (List ℕ) → List ℕ
json_filters [] = []
json_filters (f ∷ fs) = json_filter f ++ flat_map json_next_filter fs

abbrev pub json_unsubscribe : Unsubscribe → List ℕ
json_unsubscribe u = json_id u.identifier ++ codes ",\"filters\":[" ++ json_filters u.filters ++ codes "]"

-- ---- any packet

abbrev pub json_fields : Packet → List ℕ
json_fields (packets.Connect c) = json_connect c
json_fields (packets.Connack c) = json_connack c
json_fields (packets.Publish p) = json_publish p
json_fields (packets.Puback a) = json_ack a
json_fields (packets.Pubrec a) = json_ack a
json_fields (packets.Pubrel a) = json_ack a
json_fields (packets.Pubcomp a) = json_ack a
json_fields (packets.Subscribe s) = json_subscribe s
json_fields (packets.Suback s) = json_suback s
json_fields (packets.Unsubscribe u) = json_unsubscribe u
json_fields (packets.Unsuback s) = json_suback s
json_fields packets.Pingreq = []
json_fields packets.Pingresp = []
json_fields (packets.Disconnect n) = json_code n.reason.0
json_fields (packets.Auth n) = json_code n.reason.0

-- the first bytes of a payload, if they are asked for
abbrev pub json_head : Bool → List ℕ → List ℕ
json_head false payload = []
json_head true payload = codes ",\"head\":" ++ json_bytes (take HEAD_SIZE payload)

abbrev pub json_payload : Bool → Packet → List ℕ
json_payload with_payload (packets.Publish p) = json_head with_payload p.payload
json_payload with_payload p = []

-- where it stands, its name and its size
abbrev pub json_start : ℕ → ℕ → Packet → List ℕ
json_start place size p =
    codes "{\"place\":" ++ decimal place ++ codes ",\"type\":\"" ++ name_text p ++ codes "\",\"size\":" ++ decimal size

-- the members behind the first three
abbrev pub json_body : Bool → Packet → List ℕ
json_body with_payload p = json_fields p ++ (json_properties (properties_of p) ++ json_payload with_payload p)

-- ---- the lines

-- an object for a packet
abbrev pub json_line : Bool → Item → List ℕ
json_line with_payload i = json_start i.place i.size i.packet ++ (json_body with_payload i.packet ++ codes "}\n")

-- a fault, which is never want of memory
abbrev pub json_fault : Fault → List ℕ
json_fault faults.Malformed = codes "Malformed"
json_fault faults.Protocol = codes "Protocol"
json_fault faults.TooLarge = codes "TooLarge"
json_fault faults.Version = codes "Version"
json_fault faults.Memory = []

-- an object for a fault at this place
abbrev pub json_fault_line : ℕ → List ℕ → List ℕ
json_fault_line place name = codes "{\"place\":" ++ decimal place ++ codes ",\"fault\":\"" ++ name ++ codes "\"}\n"

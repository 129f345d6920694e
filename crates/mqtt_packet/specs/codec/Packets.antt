-- Packets and the bytes that spell them (MQTT 5.0, 2.1, 3.1 to 3.15).
use Rattle.std.specs.Prelude.{◌≡◌, ◌⊎◌, ℕ, ◌<◌, ◌≤◌, ◌^◌, Bool, true, false, List, [], ◌∷◌, ◌++◌, length}
use Rattle.mqtt_base.specs.declared.kind.Kind.{Kind}
use Rattle.mqtt_base.specs.declared.kind.Kind.TheVariants as kinds
use Rattle.mqtt_base.specs.Values.{varint, blob, FitsText}
use Rattle.mqtt_props.specs.declared.place.Place.TheVariants as places
use Rattle.mqtt_props.specs.Properties.{Prop}
use Rattle.mqtt_packet.specs.declared.parts.fault.Fault.{Fault}
use Rattle.mqtt_packet.specs.declared.parts.fault.Fault.TheVariants as faults
use Rattle.mqtt_packet.specs.declared.codec.head.Head.{Head}
use Rattle.mqtt_packet.specs.declared.codec.head.Head.TheVariants as heads
use Rattle.mqtt_packet.specs.declared.codec.packet.Packet.{Packet}
use Rattle.mqtt_packet.specs.declared.codec.packet.Packet.TheVariants.{Connect, Connack, Publish, Puback, Pubrec, Pubrel, Pubcomp, Subscribe, Suback, Unsubscribe, Unsuback, Pingreq, Pingresp, Disconnect, Auth}
use Rattle.mqtt_packet.specs.codec.Heads.{first}
use Rattle.mqtt_packet.specs.parts.Blocks.{keeps_laws}
use Rattle.mqtt_packet.specs.codec.Tails.{IsTail}
use Rattle.mqtt_packet.specs.connect.Connect.{FitsConnect, connect_body, lawful_connect, is_version_5}
use Rattle.mqtt_packet.specs.codec.Connack.{FitsConnack, connack_body, lawful_connack}
use Rattle.mqtt_packet.specs.codec.Publish.{FitsPublish, publish_body, delivery_head, lawful_publish}
use Rattle.mqtt_packet.specs.codec.Ack.{FitsAck, IsAckBody, ack_body, lawful_ack}
use Rattle.mqtt_packet.specs.subscribe.Subscribe.{FitsSubscribe, subscribe_body, lawful_subscribe}
use Rattle.mqtt_packet.specs.codec.Suback.{FitsSuback, suback_body, lawful_suback}
use Rattle.mqtt_packet.specs.subscribe.Unsubscribe.{FitsUnsubscribe, unsubscribe_body, lawful_unsubscribe}
use Rattle.mqtt_packet.specs.codec.Notice.{FitsNotice, disconnect_body, IsAuthBody, auth_body, lawful_auth}

-- its control packet type (2.1.2)
abbrev pub kind_of : Packet → Kind
kind_of (Connect c) = kinds.Connect
kind_of (Connack c) = kinds.Connack
kind_of (Publish p) = kinds.Publish
kind_of (Puback a) = kinds.Puback
kind_of (Pubrec a) = kinds.Pubrec
kind_of (Pubrel a) = kinds.Pubrel
kind_of (Pubcomp a) = kinds.Pubcomp
kind_of (Subscribe s) = kinds.Subscribe
kind_of (Suback s) = kinds.Suback
kind_of (Unsubscribe u) = kinds.Unsubscribe
kind_of (Unsuback u) = kinds.Unsuback
kind_of Pingreq = kinds.Pingreq
kind_of Pingresp = kinds.Pingresp
kind_of (Disconnect n) = kinds.Disconnect
kind_of (Auth n) = kinds.Auth

-- a type of the acks (3.4 to 3.7)
abbrev pub IsAckKind : Kind → Type 0
IsAckKind k = (k ≡ kinds.Puback) ⊎ ((k ≡ kinds.Pubrec) ⊎ ((k ≡ kinds.Pubrel) ⊎ (k ≡ kinds.Pubcomp)))

-- the properties of its own block; PINGREQ and PINGRESP have no block (2.2.2)
abbrev pub properties_of : Packet → List Prop
properties_of (Connect c) = c.properties
properties_of (Connack c) = c.properties
properties_of (Publish p) = p.properties
properties_of (Puback a) = a.properties
properties_of (Pubrec a) = a.properties
properties_of (Pubrel a) = a.properties
properties_of (Pubcomp a) = a.properties
properties_of (Subscribe s) = s.properties
properties_of (Suback s) = s.properties
properties_of (Unsubscribe u) = u.properties
properties_of (Unsuback u) = u.properties
properties_of Pingreq = []
properties_of Pingresp = []
properties_of (Disconnect n) = n.properties
properties_of (Auth n) = n.properties

-- its first byte
abbrev pub head : Packet → Head
head (Connect c) = heads.Connect
head (Connack c) = heads.Connack
head (Publish p) = delivery_head p.delivery p.retain
head (Puback a) = heads.Puback
head (Pubrec a) = heads.Pubrec
head (Pubrel a) = heads.Pubrel
head (Pubcomp a) = heads.Pubcomp
head (Subscribe s) = heads.Subscribe
head (Suback s) = heads.Suback
head (Unsubscribe u) = heads.Unsubscribe
head (Unsuback u) = heads.Unsuback
head Pingreq = heads.Pingreq
head Pingresp = heads.Pingresp
head (Disconnect n) = heads.Disconnect
head (Auth n) = heads.Auth

-- the parts have a spelling: texts are texts, lengths and numbers fit, codes and properties are those of the packet
abbrev pub Fits : Packet → Type 0
Fits (Connect c) = FitsConnect c
Fits (Connack c) = FitsConnack c
Fits (Publish p) = FitsPublish p
Fits (Puback a) = FitsAck kinds.Puback places.Puback a
Fits (Pubrec a) = FitsAck kinds.Pubrec places.Pubrec a
Fits (Pubrel a) = FitsAck kinds.Pubrel places.Pubrel a
Fits (Pubcomp a) = FitsAck kinds.Pubcomp places.Pubcomp a
Fits (Subscribe s) = FitsSubscribe s
Fits (Suback s) = FitsSuback kinds.Suback places.Suback s
Fits (Unsubscribe u) = FitsUnsubscribe u
Fits (Unsuback u) = FitsSuback kinds.Unsuback places.Unsuback u
Fits Pingreq = Unit {0}
Fits Pingresp = Unit {0}
Fits (Disconnect n) = FitsNotice kinds.Disconnect places.Disconnect n
Fits (Auth n) = FitsNotice kinds.Auth places.Auth n

-- the bytes are a body of the packet: its one, or for an ack, DISCONNECT and AUTH one of several
abbrev pub IsBody : Packet → List ℕ → Type 0
IsBody (Connect c) body = body ≡ connect_body c
IsBody (Connack c) body = body ≡ connack_body c
IsBody (Publish p) body = body ≡ publish_body p
IsBody (Puback a) body = IsAckBody a body
IsBody (Pubrec a) body = IsAckBody a body
IsBody (Pubrel a) body = IsAckBody a body
IsBody (Pubcomp a) body = IsAckBody a body
IsBody (Subscribe s) body = body ≡ subscribe_body s
IsBody (Suback s) body = body ≡ suback_body s
IsBody (Unsubscribe u) body = body ≡ unsubscribe_body u
IsBody (Unsuback u) body = body ≡ suback_body u
IsBody Pingreq body = body ≡ []
IsBody Pingresp body = body ≡ []
IsBody (Disconnect n) body = IsTail n.reason.0 n.properties body
IsBody (Auth n) body = IsAuthBody n body

-- a first byte, how many bytes follow, and these (2.1.1, 2.1.4)
abbrev pub framed : Head → List ℕ → List ℕ
framed h body = first h ∷ varint (length body) ++ body

-- Layout: the bytes spell the packet, in any of its spellings, whether it keeps its laws or not.
abbrev pub HasLayout : Packet → List ℕ → Type 0
HasLayout p bytes = Fits p × ((body : List ℕ) × IsBody p body × (length body < 2 ^ 28) × (bytes ≡ framed (head p) body))

-- ---- the laws

abbrev pub is_lawful : Packet → Bool
is_lawful (Connect c) = lawful_connect c
is_lawful (Connack c) = lawful_connack c
is_lawful (Publish p) = lawful_publish p
is_lawful (Puback a) = lawful_ack places.Puback a
is_lawful (Pubrec a) = lawful_ack places.Pubrec a
is_lawful (Pubrel a) = lawful_ack places.Pubrel a
is_lawful (Pubcomp a) = lawful_ack places.Pubcomp a
is_lawful (Subscribe s) = lawful_subscribe s
is_lawful (Suback s) = lawful_suback places.Suback s
is_lawful (Unsubscribe u) = lawful_unsubscribe u
is_lawful (Unsuback u) = lawful_suback places.Unsuback u
is_lawful Pingreq = true
is_lawful Pingresp = true
is_lawful (Disconnect n) = keeps_laws places.Disconnect n.properties
is_lawful (Auth n) = lawful_auth n

abbrev pub IsLawful : Packet → Type 0
IsLawful p = is_lawful p ≡ true

-- Spelling: a layout of a packet that keeps its laws.
abbrev pub Spells : Packet → List ℕ → Type 0
Spells p bytes = HasLayout p bytes × IsLawful p

-- a CONNECT that begins with another protocol's name or another version (3.1.2.1, 3.1.2.2)
abbrev pub IsOtherVersion : List ℕ → Type 0
IsOtherVersion bytes =
    (protocol : List ℕ) × (version : ℕ) × (rest : List ℕ) × FitsText protocol × (is_version_5 protocol version ≡ false)
    × (length (blob protocol ++ version ∷ rest) < 2 ^ 28) × (bytes ≡ framed heads.Connect (blob protocol ++ version ∷ rest))

-- Refusal: why no packet is spelled (4.13).
abbrev pub Refusal : Fault → List ℕ → Type 0
Refusal faults.Malformed bytes = ((p : Packet) → HasLayout p bytes → ⊥) × (IsOtherVersion bytes → ⊥)
Refusal faults.Protocol bytes = (p : Packet) × HasLayout p bytes × (is_lawful p ≡ false)
Refusal faults.TooLarge bytes = ⊥
Refusal faults.Version bytes = IsOtherVersion bytes
Refusal faults.Memory bytes = ⊥

-- ---- the shortest spelling

abbrev pub shortest_body : Packet → List ℕ
shortest_body (Connect c) = connect_body c
shortest_body (Connack c) = connack_body c
shortest_body (Publish p) = publish_body p
shortest_body (Puback a) = ack_body a
shortest_body (Pubrec a) = ack_body a
shortest_body (Pubrel a) = ack_body a
shortest_body (Pubcomp a) = ack_body a
shortest_body (Subscribe s) = subscribe_body s
shortest_body (Suback s) = suback_body s
shortest_body (Unsubscribe u) = unsubscribe_body u
shortest_body (Unsuback u) = suback_body u
shortest_body Pingreq = []
shortest_body Pingresp = []
shortest_body (Disconnect n) = disconnect_body n
shortest_body (Auth n) = auth_body n

abbrev pub shortest_of : Packet → List ℕ
shortest_of p = framed (head p) (shortest_body p)

-- the packet has a spelling
abbrev pub HasSpelling : Packet → Type 0
HasSpelling p = Fits p × (length (shortest_body p) < 2 ^ 28) × IsLawful p

-- the bytes spell the packet, and none fewer do
abbrev pub IsShortest : Packet → List ℕ → Type 0
IsShortest p bytes = Spells p bytes × ((other : List ℕ) → Spells p other → length bytes ≤ length other)

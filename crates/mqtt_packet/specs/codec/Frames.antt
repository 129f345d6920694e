-- The packet that a frame spells, or why it spells none (MQTT 5.0, 2.1, 4.13).
use Rattle.std.specs.Prelude.{◌≡◌, ◌⊎◌, ℕ, Bool, true, false, List, [], ◌∷◌, length, Result, Ok, Err, ◌==◌, if◌then◌else◌}
use Rattle.mqtt_base.specs.declared.fault.ReadFault.{ReadFault}
use Rattle.mqtt_base.specs.declared.kind.Kind.TheVariants as kinds
use Rattle.mqtt_base.specs.Reading.{◌>>=◌, varint_at, text_at, u8_at}
use Rattle.mqtt_props.specs.declared.place.Place.TheVariants as places
use Rattle.mqtt_packet.specs.declared.parts.fault.Fault.{Fault}
use Rattle.mqtt_packet.specs.declared.parts.fault.Fault.TheVariants.{Malformed, Protocol, Version}
use Rattle.mqtt_packet.specs.declared.codec.head.Head.{Head}
use Rattle.mqtt_packet.specs.declared.codec.head.Head.TheVariants as heads
use Rattle.mqtt_packet.specs.declared.codec.packet.Packet.{Packet}
use Rattle.mqtt_packet.specs.declared.codec.packet.Packet.TheVariants.{Connect, Connack, Publish, Puback, Pubrec, Pubrel, Pubcomp, Subscribe, Suback, Unsubscribe, Unsuback, Pingreq, Pingresp, Disconnect, Auth}
use Rattle.mqtt_packet.specs.declared.codec.packet.PacketRef.{PacketRef}
use Rattle.mqtt_packet.specs.declared.codec.packet.PacketRef.TheVariants as refs
use Rattle.mqtt_packet.specs.codec.Heads.{head_of}
use Rattle.mqtt_packet.specs.parts.Reading.{malformed, known}
use Rattle.mqtt_packet.specs.connect.Connect.{connect_at, connect_of, is_version_5, lawful_connect}
use Rattle.mqtt_packet.specs.codec.Connack.{connack_at, connack_of, lawful_connack}
use Rattle.mqtt_packet.specs.codec.Publish.{publish_at, publish_of, lawful_publish}
use Rattle.mqtt_packet.specs.codec.Ack.{ack_at, ack_of, lawful_ack}
use Rattle.mqtt_packet.specs.subscribe.Subscribe.{subscribe_at, subscribe_of, lawful_subscribe}
use Rattle.mqtt_packet.specs.codec.Suback.{suback_at, suback_of, lawful_suback}
use Rattle.mqtt_packet.specs.subscribe.Unsubscribe.{unsubscribe_at, unsubscribe_of, lawful_unsubscribe}
use Rattle.mqtt_packet.specs.codec.Notice.{disconnect_at, auth_at, notice_of, lawful_disconnect, lawful_auth}
use Rattle.mqtt_packet.specs.codec.Packets.{is_lawful}

-- how many bytes follow, and these
abbrev pub sized_at : List ℕ → Result (List ℕ) Fault
sized_at bytes = do
  n ← malformed (varint_at bytes)
  if length n.1 == n.0 then Ok n.1 else Err Malformed

-- the head and the body
unfoldable pub frame_at : List ℕ → Result (Head × List ℕ) Fault
frame_at [] = Err Malformed
frame_at (b ∷ bytes) = do
  h ← known (head_of b)
  body ← sized_at bytes
  Ok (h, body)

unfoldable pub empty_at : List ℕ → Result (Unit {0}) Fault
empty_at [] = Ok tt
empty_at (b ∷ bytes) = Err Malformed

abbrev pub made_by : {A : Type 0} → (A → Packet) → Result A Fault → Result Packet Fault
made_by make (Ok x) = Ok (make x)
made_by make (Err f) = Err f

unfoldable pub body_at : Head → List ℕ → Result Packet Fault
body_at heads.Connect body = made_by Connect (connect_at body)
body_at heads.Connack body = made_by Connack (connack_at body)
body_at (heads.Publish dup q retain) body = made_by Publish (publish_at dup q retain body)
body_at heads.Puback body = made_by Puback (ack_at kinds.Puback places.Puback body)
body_at heads.Pubrec body = made_by Pubrec (ack_at kinds.Pubrec places.Pubrec body)
body_at heads.Pubrel body = made_by Pubrel (ack_at kinds.Pubrel places.Pubrel body)
body_at heads.Pubcomp body = made_by Pubcomp (ack_at kinds.Pubcomp places.Pubcomp body)
body_at heads.Subscribe body = made_by Subscribe (subscribe_at body)
body_at heads.Suback body = made_by Suback (suback_at kinds.Suback places.Suback body)
body_at heads.Unsubscribe body = made_by Unsubscribe (unsubscribe_at body)
body_at heads.Unsuback body = made_by Unsuback (suback_at kinds.Unsuback places.Unsuback body)
body_at heads.Pingreq body = made_by (λ u. Pingreq) (empty_at body)
body_at heads.Pingresp body = made_by (λ u. Pingresp) (empty_at body)
body_at heads.Disconnect body = made_by Disconnect (disconnect_at body)
body_at heads.Auth body = made_by Auth (auth_at body)

-- whether a CONNECT's body begins with the protocol's name and the version
unfoldable pub versioned_at : List ℕ → Result Bool ReadFault
versioned_at body = do
  protocol ← text_at body
  version ← u8_at protocol.1
  Ok (is_version_5 protocol.0 version.0)

abbrev pub version_by : Result Bool ReadFault → Result (Unit {0}) Fault
version_by (Ok true) = Ok tt
version_by (Ok false) = Err Version
version_by (Err e) = Ok tt

abbrev pub version_at : Head → List ℕ → Result (Unit {0}) Fault
version_at heads.Connect body = version_by (versioned_at body)
version_at h body = Ok tt

-- what was read, if it keeps its laws (1.2)
abbrev pub judged : {A : Type 0} → (A → Bool) → Result A Fault → Result A Fault
judged law read = do
  x ← malformed read
  if law x then Ok x else Err Protocol

-- the first bytes of the acks; of the packets that ask for subscriptions, or answer that
abbrev pub IsAck : Head → Type 0
IsAck h = (h ≡ heads.Puback) ⊎ ((h ≡ heads.Pubrec) ⊎ ((h ≡ heads.Pubrel) ⊎ (h ≡ heads.Pubcomp)))

abbrev pub IsOfSubscriptions : Head → Type 0
IsOfSubscriptions h = (h ≡ heads.Subscribe) ⊎ ((h ≡ heads.Suback) ⊎ ((h ≡ heads.Unsubscribe) ⊎ (h ≡ heads.Unsuback)))

-- the packet of a head and a body, each kind judged by its own laws
unfoldable pub judged_at : Head → List ℕ → Result Packet Fault
judged_at heads.Connect body = made_by Connect (judged lawful_connect (connect_at body))
judged_at heads.Connack body = made_by Connack (judged lawful_connack (connack_at body))
judged_at (heads.Publish dup q retain) body = made_by Publish (judged lawful_publish (publish_at dup q retain body))
judged_at heads.Puback body = made_by Puback (judged (lawful_ack places.Puback) (ack_at kinds.Puback places.Puback body))
judged_at heads.Pubrec body = made_by Pubrec (judged (lawful_ack places.Pubrec) (ack_at kinds.Pubrec places.Pubrec body))
judged_at heads.Pubrel body = made_by Pubrel (judged (lawful_ack places.Pubrel) (ack_at kinds.Pubrel places.Pubrel body))
judged_at heads.Pubcomp body = made_by Pubcomp (judged (lawful_ack places.Pubcomp) (ack_at kinds.Pubcomp places.Pubcomp body))
judged_at heads.Subscribe body = made_by Subscribe (judged lawful_subscribe (subscribe_at body))
judged_at heads.Suback body = made_by Suback (judged (lawful_suback places.Suback) (suback_at kinds.Suback places.Suback body))
judged_at heads.Unsubscribe body = made_by Unsubscribe (judged lawful_unsubscribe (unsubscribe_at body))
judged_at heads.Unsuback body = made_by Unsuback (judged (lawful_suback places.Unsuback) (suback_at kinds.Unsuback places.Unsuback body))
judged_at heads.Pingreq body = made_by (λ u. Pingreq) (malformed (empty_at body))
judged_at heads.Pingresp body = made_by (λ u. Pingresp) (malformed (empty_at body))
judged_at heads.Disconnect body = made_by Disconnect (judged lawful_disconnect (disconnect_at body))
judged_at heads.Auth body = made_by Auth (judged lawful_auth (auth_at body))

-- the packet of a head and a body, with its laws
unfoldable pub lawful_at : Head → List ℕ → Result Packet Fault
lawful_at h body = do
  u ← version_at h body
  judged is_lawful (body_at h body)

unfoldable pub packet_at : List ℕ → Result Packet Fault
packet_at bytes = do
  f ← malformed (frame_at bytes)
  lawful_at f.0 f.1

-- what is lent out of a frame
abbrev pub packet_of : PacketRef → Packet
packet_of (refs.Connect c) = Connect (connect_of c)
packet_of (refs.Connack c) = Connack (connack_of c)
packet_of (refs.Publish p) = Publish (publish_of p)
packet_of (refs.Puback a) = Puback (ack_of a)
packet_of (refs.Pubrec a) = Pubrec (ack_of a)
packet_of (refs.Pubrel a) = Pubrel (ack_of a)
packet_of (refs.Pubcomp a) = Pubcomp (ack_of a)
packet_of (refs.Subscribe s) = Subscribe (subscribe_of s)
packet_of (refs.Suback s) = Suback (suback_of s)
packet_of (refs.Unsubscribe u) = Unsubscribe (unsubscribe_of u)
packet_of (refs.Unsuback u) = Unsuback (suback_of u)
packet_of refs.Pingreq = Pingreq
packet_of refs.Pingresp = Pingresp
packet_of (refs.Disconnect n) = Disconnect (notice_of n)
packet_of (refs.Auth n) = Auth (notice_of n)

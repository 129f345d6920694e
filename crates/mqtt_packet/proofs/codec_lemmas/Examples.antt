-- Worked frames, by computing (MQTT 5.0, 3.1, 3.4, 3.14, 3.15).
use Rattle.std.proofs.Common.{◌≡◌, true, false, [], ◌∷◌, Ok, Err, refl}
use Rattle.mqtt_base.specs.Values.{varint}
use Rattle.mqtt_base.specs.Reading.{groups_at, varint_at}
use Rattle.mqtt_base.specs.Items.{items_in, items_at}
use Rattle.mqtt_props.specs.Reading.{block_at}
use Rattle.mqtt_props.specs.Laws.{layout_at}
use Rattle.mqtt_packet.specs.declared.parts.fault.Fault.TheVariants.{Malformed, Protocol}
use Rattle.mqtt_packet.specs.declared.codec.packet.Packet.{Packet}
use Rattle.mqtt_packet.specs.declared.codec.packet.Packet.TheVariants.{Puback, Pingreq, Disconnect, Auth}
use Rattle.mqtt_packet.specs.connect.Connect.{is_version_5}
use Rattle.mqtt_packet.specs.codec.Tails.{tail_at}
use Rattle.mqtt_packet.specs.codec.Ack.{ack_at}
use Rattle.mqtt_packet.specs.codec.Notice.{auth_at}
use Rattle.mqtt_packet.specs.codec.Packets.{shortest_of}
use Rattle.mqtt_packet.specs.codec.Frames.{frame_at, empty_at, body_at, lawful_at, packet_at}

abbrev puback : Packet
puback = Puback (record { identifier = 10; reason = record { 0 = 0 }; properties = [] })

-- three spellings of one PUBACK, and the shortest of them
puback_of_two_bytes : packet_at (0x40 ∷ 2 ∷ 0 ∷ 10 ∷ []) ≡ Ok puback
unfolding packet_at frame_at lawful_at body_at ack_at tail_at varint_at groups_at
puback_of_two_bytes = refl

puback_with_code : packet_at (0x40 ∷ 3 ∷ 0 ∷ 10 ∷ 0 ∷ []) ≡ Ok puback
unfolding packet_at frame_at lawful_at body_at ack_at tail_at varint_at groups_at
puback_with_code = refl

puback_with_block : packet_at (0x40 ∷ 4 ∷ 0 ∷ 10 ∷ 0 ∷ 0 ∷ []) ≡ Ok puback
unfolding packet_at frame_at lawful_at body_at ack_at tail_at layout_at block_at items_at items_in varint_at groups_at
puback_with_block = refl

shortest_puback : shortest_of puback ≡ 0x40 ∷ 2 ∷ 0 ∷ 10 ∷ []
unfolding varint
shortest_puback = refl

-- a foreign code, and the flags of another packet
puback_with_foreign_code : packet_at (0x40 ∷ 3 ∷ 0 ∷ 10 ∷ 1 ∷ []) ≡ Err Malformed
unfolding packet_at frame_at lawful_at body_at ack_at tail_at varint_at groups_at
puback_with_foreign_code = refl

pubrel_without_flags : packet_at (0x60 ∷ 2 ∷ 0 ∷ 10 ∷ []) ≡ Err Malformed
unfolding packet_at frame_at
pubrel_without_flags = refl

-- an identifier of 0, and an AUTH without a method
puback_of_identifier_zero : packet_at (0x40 ∷ 2 ∷ 0 ∷ 0 ∷ []) ≡ Err Protocol
unfolding packet_at frame_at lawful_at body_at ack_at tail_at varint_at groups_at
puback_of_identifier_zero = refl

auth_without_method : packet_at (0xF0 ∷ 2 ∷ 0x18 ∷ 0 ∷ []) ≡ Err Protocol
unfolding packet_at frame_at lawful_at body_at auth_at layout_at block_at items_at items_in varint_at groups_at
auth_without_method = refl

-- a ping, and one with an overlong length
ping : packet_at (0xC0 ∷ 0 ∷ []) ≡ Ok Pingreq
unfolding packet_at frame_at lawful_at body_at empty_at varint_at groups_at
ping = refl

overlong : packet_at (0xD0 ∷ 0x80 ∷ 0 ∷ []) ≡ Err Malformed
unfolding packet_at frame_at varint_at groups_at
overlong = refl

-- the protocol's name with version 5, and with version 4
version_5 : is_version_5 (0x4D ∷ 0x51 ∷ 0x54 ∷ 0x54 ∷ []) 5 ≡ true
version_5 = refl

version_4 : is_version_5 (0x4D ∷ 0x51 ∷ 0x54 ∷ 0x54 ∷ []) 4 ≡ false
version_4 = refl

-- AUTH and DISCONNECT with code 00 and no property are written without a body
shortest_auth : shortest_of (Auth (record { reason = record { 0 = 0 }; properties = [] })) ≡ 0xF0 ∷ 0 ∷ []
unfolding varint
shortest_auth = refl

shortest_disconnect : shortest_of (Disconnect (record { reason = record { 0 = 0 }; properties = [] })) ≡ 0xE0 ∷ 0 ∷ []
unfolding varint
shortest_disconnect = refl

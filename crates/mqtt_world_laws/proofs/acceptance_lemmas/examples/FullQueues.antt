-- A worked run: a stranger's Will fills a receiver's queue, and a publisher's message is refused for want of room; what
-- entered is what was brought (MQTT 5.0, 3.1.2.5, 3.3.4, 4.9).
use Rattle.std.proofs.Common.{◌≡◌, ℕ, false, List, [], ◌∷◌, ◌++◌, Some, refl}
use Rattle.std.specs.Prelude.{codes, option_map}
use Rattle.std.specs.Str.{is_utf8, chars}
use Rattle.std.proofs.Math.Utf8.{encode}
use Rattle.mqtt_base.specs.Values.{varint}
use Rattle.mqtt_base.specs.Reading.{groups_at, varint_at, blob_at, text_at}
use Rattle.mqtt_base.specs.Items.{items_in, items_at}
use Rattle.mqtt_base.specs.declared.session.CopyId.{CopyId}
use Rattle.mqtt_props.specs.Reading.{value_at, prop_at, block_at}
use Rattle.mqtt_props.specs.Laws.{layout_at}
use Rattle.mqtt_packet.specs.connect.Connect.{will_at, user_name_at, password_at, fields_at, connect_at}
use Rattle.mqtt_packet.specs.codec.Publish.{delivery_at, publish_at}
use Rattle.mqtt_packet.specs.codec.Frames.{frame_at, body_at, versioned_at, lawful_at, packet_at}
use Rattle.mqtt_packet.specs.stream.Front.{size_at, first_of}
use Rattle.mqtt_flow.specs.inbound.Publisher.{ended, refused}
use Rattle.mqtt_rules.specs.declared.step.Capacity.{Capacity}
use Rattle.mqtt_rules.proofs.step_lemmas.examples.Play.{usual, bytes}
use Rattle.mqtt_world_model.specs.model.Ends.{Publisher}
use Rattle.mqtt_world_model.specs.model.World.{Event, publisher, receiver, publish, ask, stranger, publisher_named, start}
use Rattle.mqtt_world_model.specs.model.Run.{run}
use Rattle.mqtt_world_model.proofs.model_lemmas.examples.Scripts.{turns, p1, r1, draft, first_copy, joins, subscribes, exchange}
use Rattle.mqtt_world_laws.specs.acceptance.Copies.{entered_from}
use Rattle.mqtt_world_laws.specs.acceptance.Entries.{brought_from}

-- a queue holds one copy
abbrev small : Capacity
small = record usual { queue = 1 }

abbrev s1 : List ℕ
s1 = codes "s1"

-- the stranger's CONNECT has a Will of QoS 1 to that topic; then it sends what is no packet, and its line is closed
abbrev filled : List Event
filled =
    receiver r1 10 0 ∷ joins r1 false ++ (subscribes r1 ++ (
    ask (stranger s1 (bytes "10 1e 00 04 4d 51 54 54 05 0e 00 00 05 11 ff ff ff ff 00 02 73 31 00 00 03 61 2f 62 00 02 68 69"))
    ∷ ask (stranger s1 (bytes "00 00")) ∷ []))

abbrev refused_one : List Event
refused_one = filled ++ publisher p1 ∷ joins p1 false ++ (publish p1 draft ∷ exchange p1)

abbrev direct : List CopyId
direct = first_copy ∷ []

-- a Will enters a queue with room
pub a_will_enters : entered_from small (turns refused_one) start ≡ direct
unfolding varint first_of size_at packet_at frame_at versioned_at lawful_at body_at connect_at fields_at will_at user_name_at password_at publish_at delivery_at layout_at block_at items_at items_in text_at blob_at is_utf8 chars encode varint_at groups_at prop_at value_at
a_will_enters = refl

-- as it is brought
pub a_will_is_brought : brought_from small (turns refused_one) start ≡ direct
unfolding varint first_of size_at packet_at frame_at versioned_at lawful_at body_at connect_at fields_at will_at user_name_at password_at publish_at delivery_at layout_at block_at items_at items_in text_at blob_at is_utf8 chars encode varint_at groups_at prop_at value_at
a_will_is_brought = refl

-- a publication to a full queue is refused
pub a_full_queue_refuses : option_map (λ (p : Publisher). p.fates) (publisher_named p1 (run small (turns refused_one) start)) ≡ Some (ended refused ∷ [])
unfolding varint first_of size_at packet_at frame_at versioned_at lawful_at body_at connect_at fields_at will_at user_name_at password_at publish_at delivery_at layout_at block_at items_at items_in text_at blob_at is_utf8 chars encode varint_at groups_at prop_at value_at
a_full_queue_refuses = refl

-- A worked life: a copy went out to a receiver, the broker is opened again, and its client, which keeps to nothing now, refuses
-- the copy by a PUBACK of 0x80 (MQTT 5.0, 3.4.2.1, 4.1, 4.4).
use Rattle.std.proofs.Common.{◌≡◌, false, List, [], ◌∷◌, ◌++◌, map, refl}
use Rattle.std.specs.Prelude.{codes, filter_map}
use Rattle.std.specs.Str.{is_utf8, chars}
use Rattle.std.proofs.Math.Utf8.{encode}
use Rattle.mqtt_base.specs.Values.{varint}
use Rattle.mqtt_base.specs.Reading.{groups_at, varint_at, blob_at, text_at}
use Rattle.mqtt_base.specs.Items.{items_in, items_at}
use Rattle.mqtt_base.specs.declared.session.Ending.TheVariants.{Refused}
use Rattle.mqtt_base.specs.declared.session.Qos.TheVariants.{AtLeastOnce}
use Rattle.mqtt_props.specs.Reading.{value_at, prop_at, block_at}
use Rattle.mqtt_props.specs.Laws.{layout_at}
use Rattle.mqtt_packet.specs.connect.Connect.{will_at, user_name_at, password_at, fields_at, connect_at}
use Rattle.mqtt_packet.specs.codec.Ack.{ack_at}
use Rattle.mqtt_packet.specs.codec.Tails.{tail_at}
use Rattle.mqtt_packet.specs.codec.Frames.{frame_at, body_at, versioned_at, lawful_at, packet_at}
use Rattle.mqtt_packet.specs.stream.Front.{size_at, first_of}
use Rattle.mqtt_rules.specs.declared.step.Capacity.{Capacity}
use Rattle.mqtt_rules.proofs.step_lemmas.examples.Play.{bytes, first, usual}
use Rattle.mqtt_world_model.specs.model.Ends.{Draft}
use Rattle.mqtt_world_model.specs.model.Run.{deeds_over, ended_in}
use Rattle.mqtt_world_model.specs.model.World.{Event, World, ask, publish, publisher, pump, receiver, start, stranger, to_broker}
use Rattle.mqtt_world_model.proofs.model_lemmas.examples.Scripts.{draft, first_copy, joins, p1, r1, subscribes, turns}
use Rattle.mqtt_world_laws.specs.receiver.Drains.{Doing, happens}
use Rattle.mqtt_world_laws.specs.drains.Emptied.{waiting_for}
use Rattle.mqtt_world_laws.specs.headline.Delivery.{DoingsDeliver}
use Rattle.mqtt_world_laws.specs.headline.Lives.{BrokerLife, IsFairLife, IsFairScript, after_lives}
use Rattle.mqtt_world_laws.proofs.headline_lemmas.Delivered.{lives_deliver}
use Rattle.mqtt_world_laws.proofs.headline_lemmas.Examples.{usual_within}

abbrev draft_1 : Draft
draft_1 = record draft { qos = AtLeastOnce }

-- ---- a first life: a copy of QoS 1 is sent to r1, which doesn't acknowledge it

abbrev pub unanswered : BrokerLife
unanswered = record {
  limits = usual;
  doings = map happens (turns (receiver r1 10 0 ∷ publisher p1 ∷ joins r1 false
      ++ (subscribes r1 ++ (joins p1 false ++ (publish p1 draft_1 ∷ ask (to_broker p1) ∷ ask (pump r1) ∷ [])))));
  choice = first;
  now = 0;
}

-- opened under any limits: a word without arguments would be computed once, and the words of UTF-8 are shut in it
abbrev pub opened_then : Capacity → World
opened_then limits = after_lives limits (unanswered ∷ [])

-- ---- a second one: a stranger connects by that client identifier, and refuses what was sent

-- CONNECT without Clean Start, Session Expiry Interval 0xffffffff, client identifier r1; and PUBACK of identifier 1 with 0x80
abbrev refusing : List Event
refusing =
    ask (stranger (codes "s1") (bytes "10 14 00 04 4d 51 54 54 05 00 00 00 05 11 ff ff ff ff 00 02 72 31"))
    ∷ ask (stranger (codes "s1") (bytes "40 03 00 01 80")) ∷ []

abbrev pub refused_life : List Doing
refused_life = map happens (turns refusing)

-- the copy stands still as the second life begins
pub one_is_stored : waiting_for r1 (opened_then usual) ≡ 1
unfolding varint is_utf8 chars encode
one_is_stored = refl

-- it is the one copy that ends there, and that is its end
pub it_ends_as_refused : filter_map ended_in (deeds_over usual (turns refusing) (opened_then usual))
    ≡ record { client = r1; copy = first_copy; qos = AtLeastOnce; by = Refused } ∷ []
unfolding varint first_of size_at packet_at frame_at versioned_at lawful_at body_at connect_at fields_at will_at user_name_at password_at layout_at block_at items_at items_in text_at blob_at is_utf8 chars encode varint_at groups_at prop_at value_at ack_at tail_at
it_ends_as_refused = refl

-- all that is asked of the first life
pub it_is_unanswered_fairly : IsFairLife usual unanswered start
unfolding varint is_utf8 chars encode
it_is_unanswered_fairly = record { fair = record { within = usual_within; unspent = refl; clean = refl }; unspent = refl }

-- and of the second
pub its_refusal_is_fair : IsFairScript usual refused_life (opened_then usual)
unfolding varint first_of size_at packet_at frame_at versioned_at lawful_at body_at connect_at fields_at will_at user_name_at password_at layout_at block_at items_at items_in text_at blob_at is_utf8 chars encode varint_at groups_at prop_at value_at ack_at tail_at
its_refusal_is_fair = record { within = usual_within; unspent = refl; clean = refl }

-- so the law holds of it
pub its_refusal_delivers : DoingsDeliver usual refused_life (opened_then usual)
its_refusal_delivers = lives_deliver usual (unanswered ∷ []) refused_life usual_within (tt, it_is_unanswered_fairly) its_refusal_is_fair

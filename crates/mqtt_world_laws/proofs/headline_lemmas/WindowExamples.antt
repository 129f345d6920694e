-- Worked drains through a window of twenty: twenty copies of QoS 2 are in flight at once, and two rounds take them; if all wait
-- still it takes three, since a pump sends sixteen at most (MQTT 5.0, 3.1.2.11.3, 4.3.3, 4.6, 4.9).
use Rattle.std.proofs.Common.{◌≡◌, ℕ, zero, suc, false, List, [], ◌∷◌, ◌++◌, map, refl}
use Rattle.std.specs.Prelude.{codes}
use Rattle.std.specs.Str.{is_utf8, chars}
use Rattle.std.proofs.Math.Utf8.{encode}
use Rattle.mqtt_base.specs.Values.{varint}
use Rattle.mqtt_base.specs.Reading.{groups_at, varint_at, blob_at, text_at}
use Rattle.mqtt_base.specs.Items.{items_in, items_at}
use Rattle.mqtt_props.specs.Reading.{value_at, prop_at, block_at}
use Rattle.mqtt_props.specs.Laws.{layout_at}
use Rattle.mqtt_packet.specs.connect.Connect.{will_at, user_name_at, password_at, fields_at, connect_at}
use Rattle.mqtt_packet.specs.codec.Publish.{delivery_at, publish_at}
use Rattle.mqtt_packet.specs.codec.Frames.{frame_at, body_at, versioned_at, lawful_at, packet_at}
use Rattle.mqtt_packet.specs.stream.Front.{size_at, first_of}
use Rattle.mqtt_rules.proofs.step_lemmas.examples.Play.{bytes, first, usual}
use Rattle.mqtt_world_model.specs.model.Run.{after}
use Rattle.mqtt_world_model.specs.model.Tellings.{handed_by}
use Rattle.mqtt_world_model.specs.model.World.{Event, World, ask, pump, receiver, receiver_named, start, stranger}
use Rattle.mqtt_world_model.proofs.model_lemmas.examples.Scripts.{joins, r1, subscribes, turns}
use Rattle.mqtt_world_laws.specs.receiver.Drains.{Doing, after_doings, downs_by, drains, enough_rounds, happens, rounds_taken, times}
use Rattle.mqtt_world_laws.specs.drains.Emptied.{waiting_for}
use Rattle.mqtt_world_laws.specs.headline.Delivery.{DoingsDeliver}
use Rattle.mqtt_world_laws.specs.headline.Lives.{IsFairScript}
use Rattle.mqtt_world_laws.proofs.headline_lemmas.Delivered.{script_delivers}
use Rattle.mqtt_world_laws.proofs.headline_lemmas.Examples.{usual_within}
use Rattle.mqtt_world_laws.proofs.headline_lemmas.Lives.{start_begins}

-- ---- a stranger connects, and sends PUBLISH to a/b at QoS 2, with identifiers from 1 on

abbrev s1 : List ℕ
s1 = codes "s1"

abbrev greeting : List ℕ
greeting = bytes "10 14 00 04 4d 51 54 54 05 00 00 00 05 11 ff ff ff ff 00 02 73 31"

abbrev publish_bytes : ℕ → List ℕ
publish_bytes id = bytes "34 0a 00 03 61 2f 62 00" ++ id ∷ bytes "00 68 69"

abbrev burst : ℕ → ℕ → List Event
burst zero id = []
burst (suc more) id = ask (stranger s1 (publish_bytes id)) ∷ burst more (suc id)

-- so many of them, if it may have twenty open; as functions of numbers, since of constants the checks take too many steps
abbrev burst_of : ℕ → List Event
burst_of n = receiver r1 20 0 ∷ joins r1 false ++ (subscribes r1 ++ (ask (stranger s1 greeting) ∷ burst n 1))

-- and as many pumps after them
abbrev pumped : ℕ → ℕ → List Event
pumped pumps n = burst_of n ++ times pumps (ask (pump r1))

abbrev pumped_world : ℕ → ℕ → World
pumped_world pumps n = after usual (turns (pumped pumps n))

abbrev waits : ℕ → ℕ → ℕ
waits pumps n = waiting_for r1 (pumped_world pumps n)

abbrev under_way : ℕ → ℕ → ℕ
under_way pumps n = downs_by (receiver_named r1 (pumped_world pumps n))

abbrev rounds : ℕ → ℕ → ℕ
rounds pumps n = rounds_taken usual first r1 (enough_rounds n) (pumped_world pumps n)

-- all twenty entered, and none has gone out
pub twenty_wait : waits 0 20 ≡ 20
unfolding varint first_of size_at packet_at frame_at versioned_at lawful_at body_at connect_at fields_at will_at user_name_at password_at publish_at delivery_at layout_at block_at items_at items_in text_at blob_at is_utf8 chars encode varint_at groups_at prop_at value_at
twenty_wait = refl

-- one pump sends no more
pub a_pump_sends_sixteen : under_way 1 20 ≡ 16
unfolding varint first_of size_at packet_at frame_at versioned_at lawful_at body_at connect_at fields_at will_at user_name_at password_at publish_at delivery_at layout_at block_at items_at items_in text_at blob_at is_utf8 chars encode varint_at groups_at prop_at value_at
a_pump_sends_sixteen = refl

-- the second sends the others, so that all are in flight
pub two_pumps_send_twenty : under_way 2 20 ≡ 20
unfolding varint first_of size_at packet_at frame_at versioned_at lawful_at body_at connect_at fields_at will_at user_name_at password_at publish_at delivery_at layout_at block_at items_at items_in text_at blob_at is_utf8 chars encode varint_at groups_at prop_at value_at
two_pumps_send_twenty = refl

-- of the 41 that are enough
pub two_rounds_take_what_is_in_flight : rounds 2 20 ≡ 2
unfolding varint first_of size_at packet_at frame_at versioned_at lawful_at body_at connect_at fields_at will_at user_name_at password_at publish_at delivery_at layout_at block_at items_at items_in text_at blob_at is_utf8 chars encode varint_at groups_at prop_at value_at
two_rounds_take_what_is_in_flight = refl

-- if none has gone out yet the second round sends the last four
pub three_rounds_take_what_waits : rounds 0 20 ≡ 3
unfolding varint first_of size_at packet_at frame_at versioned_at lawful_at body_at connect_at fields_at will_at user_name_at password_at publish_at delivery_at layout_at block_at items_at items_in text_at blob_at is_utf8 chars encode varint_at groups_at prop_at value_at
three_rounds_take_what_waits = refl

-- ---- as a script

abbrev pub takes_all : ℕ → List Doing
takes_all n = map happens (turns (pumped 2 n)) ++ drains first r1 (enough_rounds n) ∷ []

abbrev handed : ℕ → List ℕ
handed n = handed_by (receiver_named r1 (after_doings usual (takes_all n) start))

-- the publications of what r1 is handed
pub twenty_are_handed_over_in_order : handed 20 ≡ 1 ∷ 2 ∷ 3 ∷ 4 ∷ 5 ∷ 6 ∷ 7 ∷ 8 ∷ 9 ∷ 10 ∷ 11 ∷ 12 ∷ 13 ∷ 14 ∷ 15 ∷ 16 ∷ 17 ∷ 18 ∷ 19 ∷ 20 ∷ []
unfolding varint first_of size_at packet_at frame_at versioned_at lawful_at body_at connect_at fields_at will_at user_name_at password_at publish_at delivery_at layout_at block_at items_at items_in text_at blob_at is_utf8 chars encode varint_at groups_at prop_at value_at
twenty_are_handed_over_in_order = refl

-- all that is asked of a script
pub taking_twenty_is_fair : IsFairScript usual (takes_all 20) start
unfolding varint first_of size_at packet_at frame_at versioned_at lawful_at body_at connect_at fields_at will_at user_name_at password_at publish_at delivery_at layout_at block_at items_at items_in text_at blob_at is_utf8 chars encode varint_at groups_at prop_at value_at
taking_twenty_is_fair = record { within = usual_within; unspent = refl; clean = refl }

-- so the law holds of it
pub taking_twenty_delivers : DoingsDeliver usual (takes_all 20) start
taking_twenty_delivers = script_delivers usual (takes_all 20) start (start_begins usual usual_within) taking_twenty_is_fair

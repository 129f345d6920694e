-- A worked run of a world that begins on what a broker left: a message that went out became too large for its client, and a stranger
-- that comes by that client identifier answers its PUBREL (MQTT 5.0, 3.1.2.11.4, 3.7, 4.1, 4.4).
use Rattle.std.proofs.Common.{◌≡◌, ℕ, true, false, List, [], ◌∷◌, ◌++◌, map, Some, None, Ok, refl}
use Rattle.std.specs.Prelude.{codes, filter_map, replicate}
use Rattle.std.specs.Str.{is_utf8, chars}
use Rattle.std.proofs.Math.Utf8.{encode}
use Rattle.mqtt_base.specs.Values.{varint}
use Rattle.mqtt_base.specs.Reading.{groups_at, varint_at, blob_at, text_at}
use Rattle.mqtt_base.specs.Items.{items_in, items_at}
use Rattle.mqtt_base.specs.declared.session.Ending.TheVariants.{TooLarge}
use Rattle.mqtt_base.specs.declared.session.Qos.TheVariants.{ExactlyOnce}
use Rattle.mqtt_props.specs.declared.table.PropName.TheVariants.{MaximumPacketSize}
use Rattle.mqtt_props.specs.Properties.{Prop, U32}
use Rattle.mqtt_props.specs.Reading.{value_at, prop_at, block_at}
use Rattle.mqtt_props.specs.Laws.{layout_at}
use Rattle.mqtt_packet.specs.connect.Connect.{will_at, user_name_at, password_at, fields_at, connect_at}
use Rattle.mqtt_packet.specs.subscribe.Subscribe.{subscribe_at}
use Rattle.mqtt_packet.specs.subscribe.Subscriptions.{subscription_at}
use Rattle.mqtt_packet.specs.codec.Ack.{ack_at}
use Rattle.mqtt_packet.specs.codec.Publish.{delivery_at, publish_at}
use Rattle.mqtt_packet.specs.codec.Tails.{tail_at}
use Rattle.mqtt_packet.specs.codec.Frames.{frame_at, body_at, versioned_at, lawful_at, packet_at}
use Rattle.mqtt_packet.specs.declared.codec.packet.Packet.{Packet}
use Rattle.mqtt_packet.specs.declared.codec.packet.Packet.TheVariants.{Publish}
use Rattle.mqtt_packet.specs.stream.Front.{size_at, first_of}
use Rattle.mqtt_records.specs.messages.PassedOn.{property}
use Rattle.mqtt_records.specs.declared.state.records.Records.{Records}
use Rattle.mqtt_rules.specs.step.Contents.{IsTaken}
use Rattle.mqtt_rules.specs.step.Laws.{Asked, Event, after_events, blank}
use Rattle.mqtt_rules.specs.step.State.{stored}
use Rattle.mqtt_rules.specs.step.Step.{Call, Input, Lost, NewLine, Pump, is_opening_spent}
use Rattle.mqtt_rules.proofs.step_lemmas.examples.Play.{bytes, first, hello, hello_with, message, never_expires, topic, usual, wants}
use Rattle.mqtt_world_model.specs.model.Run.{deeds_over, ended_in}
use Rattle.mqtt_world_model.specs.model.World.{Event as Happening, World, are_bytes, ask, call_on, stranger}
use Rattle.mqtt_world_model.proofs.model_lemmas.examples.Scripts.{first_copy, p1, r1, turns}
use Rattle.mqtt_world_laws.specs.acceptance.Fair.{opened_world}
use Rattle.mqtt_world_laws.specs.receiver.Drains.{Doing, happens}
use Rattle.mqtt_world_laws.proofs.reading_lemmas.Asked.{IsWellIf, stranger_well, tested_bytes}
use Rattle.mqtt_world_laws.specs.headline.Delivery.{DoingsDeliver}
use Rattle.mqtt_world_laws.specs.headline.Lives.{IsFairScript}
use Rattle.mqtt_world_laws.proofs.headline_lemmas.Examples.{usual_within}
use Rattle.mqtt_broker.specs.reopening.Written.{AreFair}
use Rattle.mqtt_world.specs.reopening.Reached.{WasLeft}
use Rattle.mqtt_world.proofs.reopening_lemmas.Begun.{left_delivers}

-- ---- packets that are read off bytes

taken_of : (text : List ℕ) (packet : Packet) (n : ℕ) → are_bytes text ≡ true → first_of text ≡ Ok (Some (packet, n)) → IsTaken packet
taken_of text packet n each e =
    let well : IsWellIf (call_on (Some 1) text) = stranger_well (Some (record { name = []; number = Some 1; held = text })) (tested_bytes text each) in
    (rw e at well).taken

-- ---- a broker's run: r1 takes any packet, and then 64 bytes

abbrev small_one : List Prop
small_one = never_expires ∷ property MaximumPacketSize (U32 64) ∷ []

abbrev large : Packet
large = Publish (record (message 10) { payload = replicate 60 33 })

abbrev large_bytes : List ℕ
large_bytes = bytes "34 44 00 03 61 2f 62 00 0a 00" ++ replicate 60 33

hello_taken : IsTaken (hello r1)
unfolding varint first_of size_at packet_at frame_at versioned_at lawful_at body_at connect_at fields_at will_at user_name_at password_at layout_at block_at items_at items_in text_at blob_at is_utf8 chars encode varint_at groups_at prop_at value_at
hello_taken = taken_of (bytes "10 14 00 04 4d 51 54 54 05 00 00 00 05 11 ff ff ff ff 00 02 72 31") (hello r1) 22 refl refl

greeting_taken : IsTaken (hello p1)
unfolding varint first_of size_at packet_at frame_at versioned_at lawful_at body_at connect_at fields_at will_at user_name_at password_at layout_at block_at items_at items_in text_at blob_at is_utf8 chars encode varint_at groups_at prop_at value_at
greeting_taken = taken_of (bytes "10 14 00 04 4d 51 54 54 05 00 00 00 05 11 ff ff ff ff 00 02 70 31") (hello p1) 22 refl refl

small_taken : IsTaken (hello_with r1 small_one None)
unfolding varint first_of size_at packet_at frame_at versioned_at lawful_at body_at connect_at fields_at will_at user_name_at password_at layout_at block_at items_at items_in text_at blob_at is_utf8 chars encode varint_at groups_at prop_at value_at
small_taken = taken_of (bytes "10 19 00 04 4d 51 54 54 05 00 00 00 0a 11 ff ff ff ff 27 00 00 00 40 00 02 72 31") (hello_with r1 small_one None) 27 refl refl

wish_taken : IsTaken (wants 1 topic ExactlyOnce)
unfolding varint first_of size_at packet_at frame_at versioned_at lawful_at body_at subscribe_at subscription_at layout_at block_at items_at items_in text_at blob_at is_utf8 chars encode varint_at groups_at prop_at value_at
wish_taken = taken_of (bytes "82 09 00 01 00 00 03 61 2f 62 02") (wants 1 topic ExactlyOnce) 11 refl refl

large_taken : IsTaken large
unfolding varint first_of size_at packet_at frame_at versioned_at lawful_at body_at publish_at delivery_at layout_at block_at items_at items_in text_at blob_at is_utf8 chars encode varint_at groups_at prop_at value_at
large_taken = taken_of large_bytes large 70 refl refl

abbrev asked : Call → Event
asked call = Asked usual first 0 call

-- the copy goes out, and then it is above what r1 takes, so it is released
abbrev outgrown : List Event
outgrown =
    asked NewLine ∷ asked (Input 1 (hello r1)) ∷ asked (Input 1 (wants 1 topic ExactlyOnce))
    ∷ asked NewLine ∷ asked (Input 2 (hello p1)) ∷ asked (Input 2 large) ∷ asked (Pump 1) ∷ asked (Lost 1)
    ∷ asked NewLine ∷ asked (Input 3 (hello_with r1 small_one None)) ∷ asked (Pump 3) ∷ []

it_is_asked_fairly : AreFair outgrown blank
unfolding varint is_utf8 chars encode
it_is_asked_fairly =
    ((usual_within, tt, refl), ((usual_within, hello_taken, refl), ((usual_within, wish_taken, refl), ((usual_within, tt, refl), ((usual_within, greeting_taken, refl), ((usual_within, large_taken, refl), ((usual_within, tt, refl), ((usual_within, tt, refl), ((usual_within, tt, refl), ((usual_within, small_taken, refl), ((usual_within, tt, refl), tt)))))))))))

abbrev pub left : Records
left = stored (after_events outgrown blank)

-- that is what a broker left after fair calls from nothing stored
pub it_was_left : WasLeft left
it_was_left = record { events = outgrown; fair = it_is_asked_fairly; is = refl }

-- ---- a stranger comes by the client identifier r1, which takes 64 bytes, and answers the PUBREL with PUBCOMP

abbrev pub opened_then : World
opened_then = opened_world usual first 0 left

abbrev completing : List Happening
completing =
    ask (stranger (codes "s1") (bytes "10 19 00 04 4d 51 54 54 05 00 00 00 0a 11 ff ff ff ff 27 00 00 00 40 00 02 72 31"))
    ∷ ask (stranger (codes "s1") (bytes "70 02 00 01")) ∷ []

abbrev pub completed_life : List Doing
completed_life = map happens (turns completing)

-- it is the one copy that ends there, and that is its end
pub it_ends_as_too_large : filter_map ended_in (deeds_over usual (turns completing) opened_then) ≡ record { client = r1; copy = first_copy; qos = ExactlyOnce; by = TooLarge } ∷ []
unfolding varint first_of size_at packet_at frame_at versioned_at lawful_at body_at connect_at fields_at will_at user_name_at password_at layout_at block_at items_at items_in text_at blob_at is_utf8 chars encode varint_at groups_at prop_at value_at ack_at tail_at
it_ends_as_too_large = refl

opened_unspent : is_opening_spent usual first 0 left ≡ false
unfolding varint is_utf8 chars encode
opened_unspent = refl

-- all that is asked of a script
pub its_completion_is_fair : IsFairScript usual completed_life opened_then
unfolding varint first_of size_at packet_at frame_at versioned_at lawful_at body_at connect_at fields_at will_at user_name_at password_at layout_at block_at items_at items_in text_at blob_at is_utf8 chars encode varint_at groups_at prop_at value_at ack_at tail_at
its_completion_is_fair = record { within = usual_within; unspent = refl; clean = refl }

-- so the law holds of it
pub its_completion_delivers : DoingsDeliver usual completed_life opened_then
its_completion_delivers = left_delivers usual first 0 left completed_life usual_within it_was_left opened_unspent its_completion_is_fair

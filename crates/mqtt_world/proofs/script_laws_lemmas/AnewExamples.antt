-- Worked: a stranger has begun a session of a name; an end of that name is made all the same, and does not begin clean (MQTT 5.0,
-- 3.1.2.4).
use Rattle.std.proofs.Common.{◌≡◌, true, false, [], ◌∷◌, refl}
use Rattle.std.specs.Prelude.{codes}
use Rattle.std.specs.Str.{is_utf8, chars}
use Rattle.std.proofs.Math.Utf8.{encode}
use Rattle.mqtt_base.specs.Values.{varint}
use Rattle.mqtt_base.specs.Reading.{groups_at, varint_at, blob_at, text_at}
use Rattle.mqtt_base.specs.Items.{items_in, items_at}
use Rattle.mqtt_props.specs.Reading.{value_at, prop_at, block_at}
use Rattle.mqtt_props.specs.Laws.{layout_at}
use Rattle.mqtt_packet.specs.connect.Connect.{will_at, user_name_at, password_at, fields_at, connect_at}
use Rattle.mqtt_packet.specs.codec.Frames.{frame_at, body_at, versioned_at, lawful_at, packet_at}
use Rattle.mqtt_packet.specs.stream.Front.{size_at, first_of}
use Rattle.mqtt_rules.proofs.step_lemmas.examples.Play.{bytes, usual}
use Rattle.mqtt_world_model.specs.model.Run.{after, begins_clean}
use Rattle.mqtt_world_model.specs.model.World.{World, ask, is_bad, publisher, receiver, stranger}
use Rattle.mqtt_world_model.proofs.model_lemmas.examples.Scripts.{p1, r1, turns}

-- a stranger's CONNECT has the client identifier r1
abbrev taken : World
taken = after usual (turns (ask (stranger (codes "s1") (bytes "10 14 00 04 4d 51 54 54 05 00 00 00 05 11 ff ff ff ff 00 02 72 31")) ∷ []))

-- an end whose name has a session may be made
pub an_end_is_made_all_the_same : is_bad (receiver r1 10 0) taken ≡ false
unfolding varint first_of size_at packet_at frame_at versioned_at lawful_at body_at connect_at fields_at will_at user_name_at password_at layout_at block_at items_at items_in text_at blob_at is_utf8 chars encode varint_at groups_at prop_at value_at
an_end_is_made_all_the_same = refl

-- but it does not begin clean
pub its_beginning_is_not_clean : begins_clean (receiver r1 10 0) taken ≡ false
unfolding varint first_of size_at packet_at frame_at versioned_at lawful_at body_at connect_at fields_at will_at user_name_at password_at layout_at block_at items_at items_in text_at blob_at is_utf8 chars encode varint_at groups_at prop_at value_at
its_beginning_is_not_clean = refl

-- one of another name does
pub one_of_another_name_begins_clean : begins_clean (publisher p1) taken ≡ true
unfolding varint first_of size_at packet_at frame_at versioned_at lawful_at body_at connect_at fields_at will_at user_name_at password_at layout_at block_at items_at items_in text_at blob_at is_utf8 chars encode varint_at groups_at prop_at value_at
one_of_another_name_begins_clean = refl

-- A worked run of a group whose member is lost: the copy that was chosen for it ends with its session as that expires,
-- and the other member gets nothing (MQTT 5.0, 3.1.2.11.2, 4.8.2).
use Rattle.std.proofs.Common.{◌≡◌, ℕ, false, List, [], ◌∷◌, ◌++◌, refl}
use Rattle.std.specs.Prelude.{codes, filter_map}
use Rattle.std.specs.Str.{is_utf8, chars}
use Rattle.std.proofs.Math.Utf8.{encode}
use Rattle.mqtt_base.specs.Values.{varint}
use Rattle.mqtt_base.specs.Reading.{groups_at, varint_at, blob_at, text_at}
use Rattle.mqtt_base.specs.Items.{items_in, items_at}
use Rattle.mqtt_base.specs.declared.session.Ending.TheVariants.{SessionEnded}
use Rattle.mqtt_props.specs.Reading.{value_at, prop_at, block_at}
use Rattle.mqtt_props.specs.Laws.{layout_at}
use Rattle.mqtt_packet.specs.connect.Connect.{will_at, user_name_at, password_at, fields_at, connect_at}
use Rattle.mqtt_packet.specs.subscribe.Subscriptions.{subscription_at}
use Rattle.mqtt_packet.specs.subscribe.Subscribe.{subscribe_at}
use Rattle.mqtt_packet.specs.codec.Publish.{delivery_at, publish_at}
use Rattle.mqtt_packet.specs.codec.Frames.{frame_at, body_at, versioned_at, lawful_at, packet_at}
use Rattle.mqtt_packet.specs.stream.Front.{size_at, first_of}
use Rattle.mqtt_rules.specs.declared.step.Report.TheVariants.{Accepted, Entered, Ended}
use Rattle.mqtt_rules.specs.step.Deeds.{report}
use Rattle.mqtt_rules.proofs.step_lemmas.examples.Play.{usual, bytes, in_group}
use Rattle.mqtt_world_model.specs.model.World.{Event, publisher, publish, clock, ask, tick, stranger, start}
use Rattle.mqtt_world_model.specs.model.Run.{deeds_over}
use Rattle.mqtt_world_model.proofs.model_lemmas.examples.Scripts.{turns, p1, draft, joins, exchange}

abbrev m1 : List ℕ
m1 = codes "m1"

abbrev m2 : List ℕ
m2 = codes "m2"

-- two strangers in $share/g/a/b, the first with a Session Expiry Interval of 5 seconds; its line is closed for what is no
-- packet
abbrev lost : List Event
lost =
    ask (stranger m1 (bytes "10 14 00 04 4d 51 54 54 05 00 00 00 05 11 00 00 00 05 00 02 6d 31 82 12 00 01 00 00 0c 24 73 68 61 72 65 2f 67 2f 61 2f 62 02"))
    ∷ ask (stranger m2 (bytes "10 14 00 04 4d 51 54 54 05 00 00 00 05 11 ff ff ff ff 00 02 6d 32 82 12 00 01 00 00 0c 24 73 68 61 72 65 2f 67 2f 61 2f 62 02"))
    ∷ publisher p1 ∷ joins p1 false ++ (publish p1 draft ∷ exchange p1 ++ (ask (stranger m1 (bytes "00 00")) ∷ clock 4999 ∷ ask tick ∷ clock 1 ∷ ask tick ∷ []))

-- the copy of a member whose session ends leaves with it
pub a_lost_members_copy_ends : filter_map report (deeds_over usual (turns lost) start)
    ≡ Accepted 1 ∷ Entered (in_group 1 1) m1 ∷ Ended (in_group 1 1) m1 SessionEnded ∷ []
unfolding varint first_of size_at packet_at frame_at versioned_at lawful_at body_at connect_at fields_at will_at user_name_at password_at publish_at delivery_at subscribe_at subscription_at layout_at block_at items_at items_in text_at blob_at is_utf8 chars encode varint_at groups_at prop_at value_at
a_lost_members_copy_ends = refl

-- A retained message, SUBSCRIBE and UNSUBSCRIBE, with their bytes (MQTT 5.0, 3.3.1.3, 3.8 to 3.11).
use Rattle.std.proofs.Common.{◌≡◌, true, false, List, [], ◌∷◌, ◌++◌, Ok, refl}
use Rattle.std.specs.Prelude.{codes}
use Rattle.std.specs.Str.{is_utf8, chars}
use Rattle.std.proofs.Math.Utf8.{encode}
use Rattle.mqtt_base.specs.Values.{varint}
use Rattle.mqtt_base.specs.Reading.{groups_at, varint_at, blob_at, text_at}
use Rattle.mqtt_base.specs.Items.{items_in, items_at}
use Rattle.mqtt_base.specs.declared.session.Qos.TheVariants.{ExactlyOnce}
use Rattle.mqtt_props.specs.Reading.{block_at}
use Rattle.mqtt_props.specs.Laws.{layout_at}
use Rattle.mqtt_packet.specs.declared.codec.publish.Delivery.TheVariants as delivery
use Rattle.mqtt_packet.specs.declared.codec.packet.Packet.{Packet}
use Rattle.mqtt_packet.specs.declared.codec.packet.Packet.TheVariants.{Publish}
use Rattle.mqtt_packet.specs.subscribe.Filters.{filter_at}
use Rattle.mqtt_packet.specs.subscribe.Subscriptions.{subscription_at}
use Rattle.mqtt_packet.specs.codec.Publish.{delivery_at, publish_at}
use Rattle.mqtt_packet.specs.subscribe.Subscribe.{subscribe_at}
use Rattle.mqtt_packet.specs.subscribe.Unsubscribe.{unsubscribe_at}
use Rattle.mqtt_packet.specs.codec.Packets.{shortest_of}
use Rattle.mqtt_packet.specs.codec.Frames.{frame_at, body_at, lawful_at, packet_at}
use Rattle.mqtt_rules.specs.declared.step.Report.TheVariants.{Accepted}
use Rattle.mqtt_rules.specs.step.Packets.{suback, unsuback}
use Rattle.mqtt_rules.specs.step.State.{Broker}
use Rattle.mqtt_rules.specs.step.Step.{Input}
use Rattle.mqtt_rules.proofs.step_lemmas.examples.Play.{blank, Event, at, runs, asks, reopened, out, hello, welcome, in_line, wants, gives_up, topic, bytes, all_outputs}

-- ---- a retained message, SUBSCRIBE and UNSUBSCRIBE

abbrev pub kept : Packet
kept = Publish (record { delivery = delivery.AtMostOnce; retain = true; topic = topic; properties = []; payload = codes "!" })

kept_read : packet_at (bytes "31 07 00 03 61 2f 62 00 21") ≡ Ok kept
unfolding packet_at frame_at lawful_at body_at publish_at delivery_at layout_at block_at items_at items_in text_at blob_at is_utf8 chars encode varint_at groups_at
kept_read = refl

a_retained_message_is_accepted : asks (in_line 1 (hello (codes "p1"))) (at 0 (Input 1 kept)) ≡ out [] [] (Accepted 1 ∷ []) false
unfolding varint
a_retained_message_is_accepted = refl

abbrev retained : List Event
retained = in_line 1 (hello (codes "p1")) ++ at 0 (Input 1 kept) ∷ in_line 2 (hello (codes "r1"))

subscribe_read : packet_at (bytes "82 09 00 01 00 00 03 61 2f 62 02") ≡ Ok (wants 1 topic ExactlyOnce)
unfolding packet_at frame_at lawful_at body_at subscribe_at subscription_at layout_at block_at items_at items_in text_at blob_at is_utf8 chars encode varint_at groups_at
subscribe_read = refl

a_subscribe_brings_it : asks retained (at 0 (Input 2 (wants 1 topic ExactlyOnce))) ≡ out ((2, suback 1 (2 ∷ [])) ∷ (2, kept) ∷ []) [] [] false
unfolding varint
a_subscribe_brings_it = refl

suback_bytes : shortest_of (suback 1 (2 ∷ [])) ≡ bytes "90 04 00 01 00 02"
unfolding varint
suback_bytes = refl

kept_bytes : shortest_of kept ≡ bytes "31 07 00 03 61 2f 62 00 21"
unfolding varint
kept_bytes = refl

-- and after a restart, which keeps the message
abbrev retained_before : Broker
retained_before = reopened 0 (runs retained blank)

a_retained_message_outlives_a_restart : all_outputs (in_line 1 (hello (codes "r1")) ++ at 0 (Input 1 (wants 1 topic ExactlyOnce)) ∷ []) retained_before
    ≡ (1, welcome true) ∷ (1, suback 1 (2 ∷ [])) ∷ (1, kept) ∷ []
unfolding varint
a_retained_message_outlives_a_restart = refl

unsubscribe_read : packet_at (bytes "a2 08 00 02 00 00 03 61 2f 62") ≡ Ok (gives_up 2 (topic ∷ []))
unfolding packet_at frame_at lawful_at body_at unsubscribe_at filter_at layout_at block_at items_at items_in text_at blob_at is_utf8 chars encode varint_at groups_at
unsubscribe_read = refl

abbrev subscribed_there : List Event
subscribed_there = retained ++ at 0 (Input 2 (wants 1 topic ExactlyOnce)) ∷ []

an_unsubscribe_finds_it : asks subscribed_there (at 0 (Input 2 (gives_up 2 (topic ∷ [])))) ≡ out ((2, unsuback 2 (0 ∷ [])) ∷ []) [] [] false
unfolding varint
an_unsubscribe_finds_it = refl

unsuback_bytes : shortest_of (unsuback 2 (0 ∷ [])) ≡ bytes "b0 04 00 02 00 00"
unfolding varint
unsuback_bytes = refl

an_unsubscribe_again_finds_none : asks (subscribed_there ++ at 0 (Input 2 (gives_up 2 (topic ∷ []))) ∷ []) (at 0 (Input 2 (gives_up 2 (topic ∷ [])))) ≡ out ((2, unsuback 2 (0x11 ∷ [])) ∷ []) [] [] false
unfolding varint
an_unsubscribe_again_finds_none = refl

none_found_bytes : shortest_of (unsuback 2 (0x11 ∷ [])) ≡ bytes "b0 04 00 02 00 11"
unfolding varint
none_found_bytes = refl

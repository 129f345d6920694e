-- Worked copies: what a PUBLISH passes on, options and order of subscriptions (MQTT 5.0, 3.3, 3.8).
use Rattle.std.proofs.Common.{◌≡◌, ℕ, Bool, true, false, List, [], ◌∷◌, ◌++◌, refl}
use Rattle.std.specs.Prelude.{codes}
use Rattle.mqtt_base.specs.Values.{varint}
use Rattle.mqtt_base.specs.declared.session.Qos.{Qos}
use Rattle.mqtt_base.specs.declared.session.Qos.TheVariants.{ExactlyOnce}
use Rattle.mqtt_base.specs.declared.session.SubscriptionOptions.{SubscriptionOptions}
use Rattle.mqtt_props.specs.declared.table.PropName.TheVariants.{PayloadFormatIndicator, MessageExpiryInterval, ContentType, ResponseTopic, CorrelationData, SubscriptionIdentifier, TopicAlias, UserProperty}
use Rattle.mqtt_props.specs.Properties.{Prop, Byte, U16, U32, VarInt, Text, Binary, Pair}
use Rattle.mqtt_packet.specs.declared.codec.publish.Delivery.{Delivery}
use Rattle.mqtt_packet.specs.declared.codec.publish.Delivery.TheVariants as delivery
use Rattle.mqtt_packet.specs.declared.codec.packet.Packet.{Packet}
use Rattle.mqtt_packet.specs.declared.codec.packet.Packet.TheVariants.{Publish}
use Rattle.mqtt_rules.specs.declared.step.Report.TheVariants.{Accepted, Entered}
use Rattle.mqtt_records.specs.messages.PassedOn.{property}
use Rattle.mqtt_rules.specs.step.Packets.{pubrec, suback, unsuback, disconnect}
use Rattle.mqtt_rules.specs.step.Step.{Input, Pump, deeds, rows_written}
use Rattle.mqtt_rules.proofs.step_lemmas.examples.Play.{usual, first, blank, Event, at, runs, asks, out, hello, welcome, in_line, wants_with, wish, options, wants, gives_up, topic, hi, sends, copy_out, direct, subscribed, published, all_outputs}
use Rattle.mqtt_rules.proofs.step_lemmas.examples.Moments.{short_lived, expires_in}

-- a PUBLISH to a/b with any delivery, RETAIN, properties and payload
abbrev pub publishes : Delivery → Bool → List Prop → List ℕ → Packet
publishes how retain ps payload = Publish (record { delivery = how; retain = retain; topic = topic; properties = ps; payload = payload })

abbrev pub identified : ℕ → Prop
identified n = property SubscriptionIdentifier (VarInt n)

-- r1 is there for a/b at this quality of service, and p1 is connected
abbrev pub subscribed_at : Qos → List Event
subscribed_at qos = in_line 1 (hello (codes "r1")) ++ at 0 (Input 1 (wants 1 topic qos)) ∷ in_line 2 (hello (codes "p1"))

-- ---- what a PUBLISH passes on

abbrev user : Prop
user = property UserProperty (Pair (codes "k") (codes "v"))

-- its properties in the order in which they are sent, the Topic Alias left out, the identifier put in
abbrev out_of_order : List Prop
out_of_order =
    user
    ∷ property CorrelationData (Binary (1 ∷ 2 ∷ []))
    ∷ property TopicAlias (U16 1)
    ∷ property ContentType (Text (codes "t"))
    ∷ property MessageExpiryInterval (U32 7)
    ∷ property UserProperty (Pair (codes "a") (codes "b"))
    ∷ property ResponseTopic (Text (codes "x"))
    ∷ property PayloadFormatIndicator (Byte 1) ∷ []

abbrev in_order : List Prop
in_order =
    property PayloadFormatIndicator (Byte 1)
    ∷ property MessageExpiryInterval (U32 7)
    ∷ property ContentType (Text (codes "t"))
    ∷ property ResponseTopic (Text (codes "x"))
    ∷ property CorrelationData (Binary (1 ∷ 2 ∷ []))
    ∷ identified 5
    ∷ user
    ∷ property UserProperty (Pair (codes "a") (codes "b")) ∷ []

abbrev identified_one : List Event
identified_one = in_line 1 (hello (codes "r1")) ++ at 0 (Input 1 (wants_with 1 (identified 5 ∷ []) (wish topic (options ExactlyOnce) ∷ []))) ∷ in_line 2 (hello (codes "p1"))

properties_are_passed_on : all_outputs (at 0 (Input 2 (publishes (delivery.ExactlyOnce false 10) false out_of_order hi)) ∷ at 0 (Pump 1) ∷ []) (runs identified_one blank)
    ≡ (2, pubrec 10 0) ∷ (1, copy_out false 1 in_order) ∷ []
unfolding varint
properties_are_passed_on = refl

-- its whole seconds only: 999 milliseconds are none
the_interval_falls_by_whole_seconds : all_outputs (at 0 (Input 2 short_lived) ∷ at 999 (Pump 1) ∷ []) (runs subscribed blank) ≡ (2, pubrec 10 0) ∷ (1, copy_out false 1 (expires_in 5)) ∷ []
unfolding varint
the_interval_falls_by_whole_seconds = refl

a_client_gives_no_identifier : asks subscribed (at 0 (Input 2 (publishes (delivery.ExactlyOnce false 10) false (identified 1 ∷ []) hi))) ≡ out ((2, disconnect 0x82) ∷ []) (2 ∷ []) [] false
unfolding varint
a_client_gives_no_identifier = refl

-- ---- options and order of subscriptions

abbrev pub with_options : ℕ → SubscriptionOptions → Packet
with_options id o = wants_with id [] (wish topic o ∷ [])

no_local_bars_ones_own : asks (in_line 1 (hello (codes "r1")) ++ at 0 (Input 1 (with_options 1 (record (options ExactlyOnce) { no_local = true }))) ∷ []) (at 0 (Input 1 (sends 10)))
    ≡ out ((1, pubrec 10 0x10) ∷ []) [] (Accepted 1 ∷ []) false
unfolding varint
no_local_bars_ones_own = refl

without_it_they_come_back : asks (in_line 1 (hello (codes "r1")) ++ at 0 (Input 1 (with_options 1 (options ExactlyOnce))) ∷ []) (at 0 (Input 1 (sends 10)))
    ≡ out ((1, pubrec 10 0) ∷ []) [] (Accepted 1 ∷ Entered (direct 1 1) (codes "r1") ∷ []) false
unfolding varint
without_it_they_come_back = refl

-- RETAIN is passed on if that is asked for
abbrev keeps : ℕ → Packet
keeps id = publishes (delivery.ExactlyOnce false id) true [] hi

abbrev retain_seen : Bool → List (ℕ × Packet)
retain_seen retain = (1, suback 1 (2 ∷ [])) ∷ (2, welcome false) ∷ (2, pubrec 10 0) ∷ (1, publishes (delivery.ExactlyOnce false 1) retain [] hi) ∷ []

abbrev retain_with : SubscriptionOptions → List (ℕ × Packet)
retain_with o = all_outputs (at 0 (Input 1 (with_options 1 o)) ∷ in_line 2 (hello (codes "p1")) ++ at 0 (Input 2 (keeps 10)) ∷ at 0 (Pump 1) ∷ []) (runs (in_line 1 (hello (codes "r1"))) blank)

retain_is_sent_as_0 : retain_with (options ExactlyOnce) ≡ retain_seen false
unfolding varint
retain_is_sent_as_0 = refl

or_as_it_was_published : retain_with (record (options ExactlyOnce) { retain_as_published = true }) ≡ retain_seen true
unfolding varint
or_as_it_was_published = refl

-- a filter that is replaced keeps its place and has the new identifier
abbrev three_wishes : List Event
three_wishes = in_line 1 (hello (codes "r1"))
    ++ at 0 (Input 1 (wants_with 1 (identified 1 ∷ []) (wish (codes "a/#") (options ExactlyOnce) ∷ [])))
    ∷ at 0 (Input 1 (wants_with 2 (identified 2 ∷ []) (wish topic (options ExactlyOnce) ∷ [])))
    ∷ at 0 (Input 1 (wants_with 3 (identified 3 ∷ []) (wish (codes "a/#") (options ExactlyOnce) ∷ [])))
    ∷ in_line 2 (hello (codes "p1"))

a_replaced_filter_keeps_its_place : all_outputs (at 0 (Input 2 (sends 10)) ∷ at 0 (Pump 1) ∷ []) (runs three_wishes blank)
    ≡ (2, pubrec 10 0) ∷ (1, copy_out false 1 (identified 3 ∷ identified 2 ∷ [])) ∷ []
unfolding varint
a_replaced_filter_keeps_its_place = refl

-- an identifier that is open for a PUBLISH isn't taken by SUBSCRIBE and UNSUBSCRIBE
abbrev both_filters : Packet
both_filters = wants_with 10 [] (wish topic (options ExactlyOnce) ∷ wish (codes "c") (options ExactlyOnce) ∷ [])

an_open_identifier_is_in_use : all_outputs (at 0 (Input 2 both_filters) ∷ at 0 (Input 2 (gives_up 10 (topic ∷ []))) ∷ []) (runs published blank)
    ≡ (2, suback 10 (0x91 ∷ 0x91 ∷ [])) ∷ (2, unsuback 10 (0x91 ∷ [])) ∷ []
unfolding varint
an_open_identifier_is_in_use = refl

and_nothing_is_stored_of_it : rows_written (deeds usual first 0 (Input 2 both_filters) (runs published blank)) (runs published blank) ≡ []
unfolding varint
and_nothing_is_stored_of_it = refl

-- copies that entered stay when their filter is given up
copies_outlast_their_filter : all_outputs (at 0 (Input 1 (gives_up 2 (topic ∷ []))) ∷ at 0 (Pump 1) ∷ []) (runs published blank)
    ≡ (1, unsuback 2 (0 ∷ [])) ∷ (1, copy_out false 1 []) ∷ []
unfolding varint
copies_outlast_their_filter = refl

and_no_further_one_enters : asks (published ++ at 0 (Input 1 (gives_up 2 (topic ∷ []))) ∷ []) (at 0 (Input 2 (sends 11))) ≡ out ((2, pubrec 11 0x10) ∷ []) [] (Accepted 2 ∷ []) false
unfolding varint
and_no_further_one_enters = refl

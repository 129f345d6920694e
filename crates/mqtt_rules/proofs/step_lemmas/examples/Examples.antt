-- Worked examples, with their bytes: CONNECT, a message of QoS 2, its repetition and release, aliases, filters (MQTT 5.0, 3.1 to 3.8, 4.3, 4.7).
use Rattle.std.proofs.Common.{◌≡◌, ℕ, true, false, List, [], ◌∷◌, ◌++◌, Some, None, Ok, Err, refl}
use Rattle.std.specs.Prelude.{codes}
use Rattle.std.specs.Fmt.{digits}
use Rattle.std.specs.Str.{is_utf8, chars}
use Rattle.std.proofs.Math.Utf8.{encode}
use Rattle.mqtt_base.specs.Values.{varint}
use Rattle.mqtt_base.specs.Reading.{groups_at, varint_at, blob_at, text_at}
use Rattle.mqtt_base.specs.Items.{items_in, items_at}
use Rattle.mqtt_base.specs.declared.session.Qos.TheVariants.{AtMostOnce, AtLeastOnce, ExactlyOnce}
use Rattle.mqtt_props.specs.declared.table.PropName.TheVariants.{AssignedClientIdentifier, ReceiveMaximum, TopicAlias, TopicAliasMaximum, MaximumPacketSize, SubscriptionIdentifier}
use Rattle.mqtt_props.specs.Properties.{Prop, Text, U16, U32, VarInt}
use Rattle.mqtt_props.specs.Reading.{value_at, prop_at, block_at}
use Rattle.mqtt_props.specs.Laws.{layout_at}
use Rattle.mqtt_packet.specs.declared.parts.fault.Fault.TheVariants.{Version}
use Rattle.mqtt_packet.specs.declared.codec.publish.Delivery.TheVariants as delivery
use Rattle.mqtt_packet.specs.declared.codec.packet.Packet.{Packet}
use Rattle.mqtt_packet.specs.declared.codec.packet.Packet.TheVariants.{Connect, Publish}
use Rattle.mqtt_packet.specs.parts.Faults.{answer_to}
use Rattle.mqtt_packet.specs.connect.Connect.{will_at, user_name_at, password_at, fields_at, connect_at}
use Rattle.mqtt_packet.specs.codec.Publish.{delivery_at, publish_at}
use Rattle.mqtt_packet.specs.codec.Tails.{tail_at}
use Rattle.mqtt_packet.specs.codec.Ack.{ack_at}
use Rattle.mqtt_packet.specs.codec.Packets.{shortest_of}
use Rattle.mqtt_packet.specs.codec.Frames.{frame_at, body_at, versioned_at, lawful_at, packet_at}
use Rattle.mqtt_rules.specs.declared.step.Report.TheVariants.{Accepted, Entered, Released}
use Rattle.mqtt_rules.specs.step.Packets.{reason, connack, pubrec, pubrel, pubcomp, disconnect}
use Rattle.mqtt_records.specs.messages.PassedOn.{property}
use Rattle.mqtt_rules.specs.step.Step.{NewLine, Input, BadInput, Pump, Outcome}
use Rattle.mqtt_rules.proofs.step_lemmas.examples.Play.{Event, at, asks, out, hello, in_line, wants_with, wish, options, wants, topic, message, sends, copy_out, direct, subscribed, bytes, sends_again, published}

-- If a moment is named `now`, the call may come at any.

-- ---- CONNECT

-- with an empty client identifier: it is given one
abbrev pub nameless : Packet
nameless = Connect (record { clean_start = true; keep_alive = 60; properties = []; client_identifier = []; will = None; user_name = None; password = None })

nameless_read : packet_at (bytes "10 0d 00 04 4d 51 54 54 05 02 00 3c 00 00 00") ≡ Ok nameless
unfolding packet_at frame_at versioned_at lawful_at body_at connect_at fields_at will_at user_name_at password_at layout_at block_at items_at items_in text_at blob_at is_utf8 chars encode varint_at groups_at
nameless_read = refl

abbrev greeting : Packet
greeting = connack false 0 (
    property AssignedClientIdentifier (Text (codes "auto-1"))
    ∷ property ReceiveMaximum (U16 20) ∷ property TopicAliasMaximum (U16 10) ∷ property MaximumPacketSize (U32 65536) ∷ [])

greeting_bytes : shortest_of greeting ≡ bytes "20 17 00 00 14 12 00 06 61 75 74 6f 2d 31 21 00 14 22 00 0a 27 00 01 00 00"
unfolding varint
greeting_bytes = refl

nameless_is_named : (now : ℕ) → asks (at 0 NewLine ∷ []) (at now (Input 1 nameless)) ≡ out ((1, greeting) ∷ []) [] [] false
unfolding digits
nameless_is_named now = refl

-- of another version: CONNACK tells of it, and the line closes
version_4_read : packet_at (bytes "10 0d 00 04 4d 51 54 54 04 02 00 3c 00 00 00") ≡ Err Version
unfolding packet_at frame_at versioned_at lawful_at text_at blob_at is_utf8 chars encode varint_at groups_at
version_4_read = refl

version_4_code : answer_to Version ≡ Some (reason 0x84)
version_4_code = refl

version_4_is_refused : asks (at 0 NewLine ∷ []) (at 0 (BadInput 1 true 0x84)) ≡ out ((1, connack false 0x84 []) ∷ []) (1 ∷ []) [] false
version_4_is_refused = refl

refusal_bytes : shortest_of (connack false 0x84 []) ≡ bytes "20 03 00 84 00"
unfolding varint
refusal_bytes = refl

-- a second one on a line
second_connect_is_refused : (now : ℕ) → asks (in_line 1 (hello (codes "r1"))) (at now (Input 1 (hello (codes "r1")))) ≡ out ((1, disconnect 0x82) ∷ []) (1 ∷ []) [] false
second_connect_is_refused now = refl

protocol_error_bytes : shortest_of (disconnect 0x82) ≡ bytes "e0 01 82"
unfolding varint
protocol_error_bytes = refl

-- ---- a message of QoS 2, with a subscriber and without one

message_read : packet_at (bytes "34 0a 00 03 61 2f 62 00 0a 00 68 69") ≡ Ok (sends 10)
unfolding packet_at frame_at lawful_at body_at publish_at delivery_at layout_at block_at items_at items_in text_at blob_at is_utf8 chars encode varint_at groups_at
message_read = refl

message_enters : (now : ℕ) → asks subscribed (at now (Input 2 (sends 10))) ≡ out ((2, pubrec 10 0) ∷ []) [] (Accepted 1 ∷ Entered (direct 1 1) (codes "r1") ∷ []) false
unfolding varint
message_enters now = refl

received_bytes : shortest_of (pubrec 10 0) ≡ bytes "50 02 00 0a"
unfolding varint
received_bytes = refl

message_alone : (now : ℕ) → asks (in_line 1 (hello (codes "p1"))) (at now (Input 1 (sends 10))) ≡ out ((1, pubrec 10 0x10) ∷ []) [] (Accepted 1 ∷ []) false
message_alone now = refl

alone_bytes : shortest_of (pubrec 10 0x10) ≡ bytes "50 03 00 0a 10"
unfolding varint
alone_bytes = refl

-- ---- the same again before its release, with DUP or without it

again_read : packet_at (bytes "3c 0a 00 03 61 2f 62 00 0a 00 68 69") ≡ Ok (sends_again 10)
unfolding packet_at frame_at lawful_at body_at publish_at delivery_at layout_at block_at items_at items_in text_at blob_at is_utf8 chars encode varint_at groups_at
again_read = refl

a_repeat_enters_nothing : (now : ℕ) → asks published (at now (Input 2 (sends_again 10))) ≡ out ((2, pubrec 10 0) ∷ []) [] [] false
unfolding varint
a_repeat_enters_nothing now = refl

a_repeat_without_dup_enters_nothing : (now : ℕ) → asks published (at now (Input 2 (sends 10))) ≡ out ((2, pubrec 10 0) ∷ []) [] [] false
unfolding varint
a_repeat_without_dup_enters_nothing now = refl

-- ---- its release, and the release again

release_read : packet_at (bytes "62 02 00 0a") ≡ Ok (pubrel 10 0)
unfolding packet_at frame_at lawful_at body_at ack_at tail_at varint_at groups_at
release_read = refl

a_release_is_told : (now : ℕ) → asks published (at now (Input 2 (pubrel 10 0))) ≡ out ((2, pubcomp 10 0) ∷ []) [] (Released 2 (codes "p1") 10 ∷ []) false
unfolding varint
a_release_is_told now = refl

completion_bytes : shortest_of (pubcomp 10 0) ≡ bytes "70 02 00 0a"
unfolding varint
completion_bytes = refl

a_second_release_finds_nothing : (now : ℕ) → asks (published ++ at 0 (Input 2 (pubrel 10 0)) ∷ []) (at now (Input 2 (pubrel 10 0))) ≡ out ((2, pubcomp 10 0x92) ∷ []) [] [] false
unfolding varint
a_second_release_finds_nothing now = refl

not_found_bytes : shortest_of (pubcomp 10 0x92) ≡ bytes "70 03 00 0a 92"
unfolding varint
not_found_bytes = refl

-- once it is released, its identifier stands for a new message
a_released_identifier_is_new : (now : ℕ) → asks (published ++ at 0 (Input 2 (pubrel 10 0)) ∷ []) (at now (Input 2 (sends 10))) ≡ out ((2, pubrec 10 0) ∷ []) [] (Accepted 2 ∷ Entered (direct 2 1) (codes "r1") ∷ []) false
unfolding varint
a_released_identifier_is_new now = refl

-- ---- Topic Aliases, with a subscriber at QoS 0

abbrev plain_with : List ℕ → List Prop → List ℕ → Packet
plain_with name ps payload = Publish (record { delivery = delivery.AtMostOnce; retain = false; topic = name; properties = ps; payload = payload })

abbrev aliased : List ℕ → ℕ → List ℕ → Packet
aliased name n payload = plain_with name (property TopicAlias (U16 n) ∷ []) payload

abbrev listener : List Event
listener = in_line 1 (hello (codes "r1")) ++ at 0 (Input 1 (wants 1 topic AtMostOnce)) ∷ in_line 2 (hello (codes "p1"))

alias_with_topic_read : packet_at (bytes "30 0a 00 03 61 2f 62 03 23 00 01 21") ≡ Ok (aliased topic 1 (codes "!"))
unfolding packet_at frame_at lawful_at body_at publish_at delivery_at layout_at block_at items_at items_in prop_at value_at text_at blob_at is_utf8 chars encode varint_at groups_at
alias_with_topic_read = refl

alias_alone_read : packet_at (bytes "30 07 00 00 03 23 00 01 22") ≡ Ok (aliased [] 1 (codes "\""))
unfolding packet_at frame_at lawful_at body_at publish_at delivery_at layout_at block_at items_at items_in prop_at value_at text_at blob_at is_utf8 chars encode varint_at groups_at
alias_alone_read = refl

alias_above_the_maximum_read : packet_at (bytes "30 0a 00 03 61 2f 62 03 23 00 0b 21") ≡ Ok (aliased topic 11 (codes "!"))
unfolding packet_at frame_at lawful_at body_at publish_at delivery_at layout_at block_at items_at items_in prop_at value_at text_at blob_at is_utf8 chars encode varint_at groups_at
alias_above_the_maximum_read = refl

abbrev alias_set : List Event
alias_set = listener ++ at 0 (Input 2 (aliased topic 1 (codes "!"))) ∷ []

an_alias_is_set : asks listener (at 0 (Input 2 (aliased topic 1 (codes "!")))) ≡ out ((1, plain_with topic [] (codes "!")) ∷ []) [] (Accepted 1 ∷ []) false
unfolding varint
an_alias_is_set = refl

an_alias_stands_for_its_topic : (now : ℕ) → asks alias_set (at now (Input 2 (aliased [] 1 (codes "\"")))) ≡ out ((1, plain_with topic [] (codes "\"")) ∷ []) [] (Accepted 2 ∷ []) false
unfolding varint
an_alias_stands_for_its_topic now = refl

an_alias_above_the_maximum_closes : (now : ℕ) → asks listener (at now (Input 2 (aliased topic 11 (codes "!")))) ≡ out ((2, disconnect 0x94) ∷ []) (2 ∷ []) [] false
unfolding varint
an_alias_above_the_maximum_closes now = refl

alias_invalid_bytes : shortest_of (disconnect 0x94) ≡ bytes "e0 01 94"
unfolding varint
alias_invalid_bytes = refl

an_alias_of_zero_closes : asks listener (at 0 (Input 2 (aliased topic 0 (codes "!")))) ≡ out ((2, disconnect 0x94) ∷ []) (2 ∷ []) [] false
unfolding varint
an_alias_of_zero_closes = refl

an_unknown_alias_closes : asks alias_set (at 0 (Input 2 (aliased [] 4 (codes "!")))) ≡ out ((2, disconnect 0x82) ∷ []) (2 ∷ []) [] false
unfolding varint
an_unknown_alias_closes = refl

-- ---- filters

-- the answer to a message to this topic, if a session is there for this filter
abbrev with_filter : List ℕ → List ℕ → Outcome
with_filter filter name =
    asks (in_line 1 (hello (codes "r1")) ++ at 0 (Input 1 (wants 1 filter ExactlyOnce)) ∷ in_line 2 (hello (codes "p1")))
    (at 0 (Input 2 (Publish (record (message 10) { topic = name }))))

abbrev enters_one : Outcome
enters_one = out ((2, pubrec 10 0) ∷ []) [] (Accepted 1 ∷ Entered (direct 1 1) (codes "r1") ∷ []) false

abbrev enters_none : Outcome
enters_none = out ((2, pubrec 10 0x10) ∷ []) [] (Accepted 1 ∷ []) false

a_plus_matches_no_second_level : with_filter (codes "+") (codes "/finance") ≡ enters_none
unfolding varint
a_plus_matches_no_second_level = refl

a_hash_matches_no_dollar_topic : with_filter (codes "#") (codes "$SYS/x") ≡ enters_none
unfolding varint
a_hash_matches_no_dollar_topic = refl

-- ---- two filters of one session that match: one copy, with the identifiers of both

abbrev two_filters : List Event
two_filters = in_line 1 (hello (codes "r1"))
    ++ at 0 (Input 1 (wants_with 1 (property SubscriptionIdentifier (VarInt 1) ∷ []) (wish (codes "a/#") (options AtLeastOnce) ∷ [])))
    ∷ at 0 (Input 1 (wants_with 2 (property SubscriptionIdentifier (VarInt 2) ∷ []) (wish topic (options ExactlyOnce) ∷ [])))
    ∷ in_line 2 (hello (codes "p1"))

abbrev identified_copy : Packet
identified_copy = copy_out false 1 (property SubscriptionIdentifier (VarInt 1) ∷ property SubscriptionIdentifier (VarInt 2) ∷ [])

two_filters_give_one_copy : asks two_filters (at 0 (Input 2 (sends 10))) ≡ out ((2, pubrec 10 0) ∷ []) [] (Accepted 1 ∷ Entered (direct 1 1) (codes "r1") ∷ []) false
unfolding varint
two_filters_give_one_copy = refl

both_identifiers_in_order : asks (two_filters ++ at 0 (Input 2 (sends 10)) ∷ []) (at 0 (Pump 1)) ≡ out ((1, identified_copy) ∷ []) [] [] false
unfolding varint
both_identifiers_in_order = refl

identified_copy_bytes : shortest_of identified_copy ≡ bytes "34 0e 00 03 61 2f 62 00 01 04 0b 01 0b 02 68 69"
unfolding varint
identified_copy_bytes = refl

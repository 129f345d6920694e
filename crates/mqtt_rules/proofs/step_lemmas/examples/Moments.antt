-- Worked moments: expiry, Wills, Keep Alive (MQTT 5.0, 3.1.2.10, 3.1.3.2, 3.3.2.3, 3.14).
use Rattle.std.proofs.Common.{◌≡◌, ℕ, true, false, List, [], ◌∷◌, ◌++◌, Some, Ok, refl}
use Rattle.std.specs.Prelude.{codes}
use Rattle.std.specs.Str.{is_utf8, chars}
use Rattle.std.proofs.Math.Utf8.{encode}
use Rattle.mqtt_base.specs.Values.{varint}
use Rattle.mqtt_base.specs.Reading.{groups_at, varint_at, blob_at, text_at}
use Rattle.mqtt_base.specs.Items.{items_in, items_at}
use Rattle.mqtt_base.specs.declared.session.Qos.TheVariants.{ExactlyOnce}
use Rattle.mqtt_base.specs.declared.session.Ending.TheVariants.{Taken, Expired}
use Rattle.mqtt_props.specs.declared.table.PropName.TheVariants.{MessageExpiryInterval, SessionExpiryInterval, WillDelayInterval}
use Rattle.mqtt_props.specs.Properties.{Prop, U32}
use Rattle.mqtt_props.specs.Reading.{value_at, prop_at, block_at}
use Rattle.mqtt_props.specs.Laws.{layout_at}
use Rattle.mqtt_packet.specs.declared.connect.connect.Will.{Will}
use Rattle.mqtt_packet.specs.declared.codec.packet.Packet.{Packet}
use Rattle.mqtt_packet.specs.declared.codec.packet.Packet.TheVariants.{Publish, Disconnect}
use Rattle.mqtt_packet.specs.codec.Publish.{delivery_at, publish_at}
use Rattle.mqtt_packet.specs.codec.Tails.{tail_at}
use Rattle.mqtt_packet.specs.codec.Notice.{disconnect_at}
use Rattle.mqtt_packet.specs.codec.Packets.{shortest_of}
use Rattle.mqtt_packet.specs.codec.Frames.{frame_at, body_at, lawful_at, packet_at}
use Rattle.mqtt_rules.specs.declared.step.Report.TheVariants.{Accepted, Entered, Ended}
use Rattle.mqtt_rules.specs.step.Packets.{reason, pubrec, pubrel, pubcomp, disconnect}
use Rattle.mqtt_records.specs.messages.PassedOn.{property}
use Rattle.mqtt_rules.specs.step.Step.{NewLine, Input, Lost, Pump, Tick}
use Rattle.mqtt_rules.proofs.step_lemmas.examples.Play.{blank, Event, at, runs, tells, asks, reopened, out, never_expires, hello_with, hello, in_line, wants, topic, hi, message, copy_out, direct, subscribed, bytes, births}
use Rattle.mqtt_rules.proofs.step_lemmas.examples.Examples.{nameless}

-- ---- a message that expires after 5 seconds, for an absent session

abbrev pub expires_in : ℕ → List Prop
expires_in seconds = property MessageExpiryInterval (U32 seconds) ∷ []

abbrev pub short_lived : Packet
short_lived = Publish (record (message 10) { properties = expires_in 5 })

short_lived_read : packet_at (bytes "34 0f 00 03 61 2f 62 00 0a 05 02 00 00 00 05 68 69") ≡ Ok short_lived
unfolding packet_at frame_at lawful_at body_at publish_at delivery_at layout_at block_at items_at items_in prop_at value_at text_at blob_at is_utf8 chars encode varint_at groups_at
short_lived_read = refl

abbrev pub absent : List Event
absent = subscribed ++ at 0 (Lost 1) ∷ at 0 (Input 2 short_lived) ∷ []

before_it_expires : asks absent (at 4999 Tick) ≡ out [] [] [] false
unfolding varint
before_it_expires = refl

it_expires : asks absent (at 5000 Tick) ≡ out [] [] (Ended (direct 1 1) (codes "r1") Expired ∷ []) true
unfolding varint
it_expires = refl

-- after a restart too
it_expires_after_a_restart : tells (at 5000 Tick) (reopened 0 (runs absent blank)) ≡ out [] [] (Ended (direct 1 1) (codes "r1") Expired ∷ []) true
unfolding varint
it_expires_after_a_restart = refl

-- the client resumes in time: a second is left
abbrev in_time : List Event
in_time = absent ++ at 4000 NewLine ∷ at 4000 (Input 3 (hello (codes "r1"))) ∷ []

abbrev last_second : Packet
last_second = copy_out false 1 (expires_in 1)

it_is_sent_in_time : asks in_time (at 4000 (Pump 3)) ≡ out ((3, last_second) ∷ []) [] [] false
unfolding varint
it_is_sent_in_time = refl

last_second_bytes : shortest_of last_second ≡ bytes "34 0f 00 03 61 2f 62 00 01 05 02 00 00 00 01 68 69"
unfolding varint
last_second_bytes = refl

-- once it was sent it doesn't expire
abbrev sent_in_time : List Event
sent_in_time = in_time ++ at 4000 (Pump 3) ∷ []

-- and its handshake completes at whatever moments
its_handshake_goes_on : (now : ℕ) → asks sent_in_time (at now (Input 3 (pubrec 1 0))) ≡ out ((3, pubrel 1 0) ∷ []) [] [] false
unfolding varint
its_handshake_goes_on now = refl

its_handshake_ends : (now later : ℕ) → asks (sent_in_time ++ at now (Input 3 (pubrec 1 0)) ∷ []) (at later (Input 3 (pubcomp 1 0))) ≡ out [] [] (Ended (direct 1 1) (codes "r1") Taken ∷ []) false
unfolding varint
its_handshake_ends now later = refl

-- ---- a Will with a delay of 10 seconds, of a session that ends after 5

abbrev pub will_with : List Prop → Will
will_with ps = record { qos = ExactlyOnce; retain = false; properties = ps; topic = topic; payload = hi }

abbrev pub delayed : Will
delayed = will_with (property WillDelayInterval (U32 10) ∷ [])

-- r1 is there for a/b at QoS 2
abbrev pub mourner : List Event
mourner = in_line 1 (hello (codes "r1")) ++ at 0 (Input 1 (wants 1 topic ExactlyOnce)) ∷ []

abbrev lost : List Event
lost = mourner ++ in_line 2 (hello_with (codes "w1") (property SessionExpiryInterval (U32 5) ∷ []) (Some delayed)) ++ at 0 (Lost 2) ∷ []

before_its_end_nothing_is_due : asks lost (at 4999 Tick) ≡ out [] [] [] false
unfolding varint
before_its_end_nothing_is_due = refl

a_will_is_due_with_the_end : asks lost (at 5000 Tick) ≡ out [] [] (Accepted 1 ∷ Entered (direct 1 1) (codes "r1") ∷ []) true
unfolding varint
a_will_is_due_with_the_end = refl

the_will_is_first : births (runs (lost ++ at 5000 Tick ∷ []) blank) ≡ 1 ∷ 2 ∷ []
unfolding varint
the_will_is_first = refl

the_end_is_second : asks (lost ++ at 5000 Tick ∷ []) (at 5000 Tick) ≡ out [] [] [] true
unfolding varint
the_end_is_second = refl

then_the_session_is_gone : births (runs (lost ++ at 5000 Tick ∷ at 5000 Tick ∷ []) blank) ≡ 1 ∷ []
unfolding varint
then_the_session_is_gone = refl

then_nothing_is_due : asks (lost ++ at 5000 Tick ∷ at 5000 Tick ∷ []) (at 5000 Tick) ≡ out [] [] [] false
unfolding varint
then_nothing_is_due = refl

-- after a restart too
a_will_outlives_a_restart : tells (at 5000 Tick) (reopened 3000 (runs lost blank)) ≡ out [] [] (Accepted 1 ∷ Entered (direct 1 1) (codes "r1") ∷ []) true
unfolding varint
a_will_outlives_a_restart = refl

-- ---- a resumption cancels a Will that waits

abbrev waiting_will : List Event
waiting_will = mourner ++ in_line 2 (hello_with (codes "w1") (never_expires ∷ []) (Some delayed)) ++ at 0 (Lost 2) ∷ []

a_will_that_waits_is_published : asks waiting_will (at 10000 Tick) ≡ out [] [] (Accepted 1 ∷ Entered (direct 1 1) (codes "r1") ∷ []) true
unfolding varint
a_will_that_waits_is_published = refl

a_resumption_cancels_a_will : asks (waiting_will ++ at 3000 NewLine ∷ at 3000 (Input 3 (hello (codes "w1"))) ∷ []) (at 10000 Tick) ≡ out [] [] [] false
unfolding varint
a_resumption_cancels_a_will = refl

-- ---- a DISCONNECT that sets a Session Expiry Interval when CONNECT had none

abbrev mortal : List Event
mortal = mourner ++ in_line 2 (hello_with (codes "w1") [] (Some (will_with [])))

abbrev pub stays_longer : Packet
stays_longer = Disconnect (record { reason = reason 0; properties = property SessionExpiryInterval (U32 10) ∷ [] })

stays_longer_read : packet_at (bytes "e0 07 00 05 11 00 00 00 0a") ≡ Ok stays_longer
unfolding packet_at frame_at lawful_at body_at disconnect_at tail_at layout_at block_at items_at items_in prop_at value_at varint_at groups_at
stays_longer_read = refl

a_late_interval_breaks_the_protocol : asks mortal (at 0 (Input 2 stays_longer)) ≡ out ((2, disconnect 0x82) ∷ []) (2 ∷ []) (Accepted 1 ∷ Entered (direct 1 1) (codes "r1") ∷ []) false
unfolding varint
a_late_interval_breaks_the_protocol = refl

a_late_interval_is_not_set : births (runs (mortal ++ at 0 (Input 2 stays_longer) ∷ []) blank) ≡ 1 ∷ []
unfolding varint
a_late_interval_is_not_set = refl

-- ---- a client that falls silent: one and a half times Keep Alive

abbrev silent : List Event
silent = in_line 1 nameless

before_its_time : asks silent (at 89999 Tick) ≡ out [] [] [] false
before_its_time = refl

a_silent_client_is_closed : asks silent (at 90000 Tick) ≡ out ((1, disconnect 0x8d) ∷ []) (1 ∷ []) [] true
a_silent_client_is_closed = refl

keep_alive_bytes : shortest_of (disconnect 0x8d) ≡ bytes "e0 01 8d"
unfolding varint
keep_alive_bytes = refl

its_session_stood : births (runs silent blank) ≡ 1 ∷ []
its_session_stood = refl

its_session_ends : births (runs (silent ++ at 90000 Tick ∷ []) blank) ≡ []
its_session_ends = refl

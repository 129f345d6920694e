-- A publisher that comes back while its PUBREL is under way, and a client that resumes (MQTT 5.0, 3.1.4, 4.4).
use Rattle.std.proofs.Common.{◌≡◌, true, false, List, [], ◌∷◌, ◌++◌, None, refl}
use Rattle.std.specs.Prelude.{codes}
use Rattle.mqtt_base.specs.Values.{varint}
use Rattle.mqtt_base.specs.declared.session.Qos.TheVariants.{ExactlyOnce}
use Rattle.mqtt_props.specs.declared.table.PropName.TheVariants.{ReceiveMaximum}
use Rattle.mqtt_props.specs.Properties.{U16}
use Rattle.mqtt_packet.specs.declared.codec.packet.Packet.{Packet}
use Rattle.mqtt_packet.specs.codec.Packets.{shortest_of}
use Rattle.mqtt_rules.specs.declared.step.Report.TheVariants.{Accepted, Entered, Released}
use Rattle.mqtt_records.specs.messages.PassedOn.{property}
use Rattle.mqtt_rules.specs.step.Packets.{pubrec, pubrel, pubcomp, disconnect}
use Rattle.mqtt_rules.specs.step.Step.{NewLine, Input, Lost, Pump}
use Rattle.mqtt_rules.proofs.step_lemmas.examples.Play.{blank, Event, at, asks, out, never_expires, hello_with, hello, welcome, in_line, wants, topic, sends, direct, subscribed, bytes, burst, all_reports}

-- ---- a publisher releases, gives up and comes back on a new line: its PUBREL is under way on both

abbrev giving_up : List Event
giving_up = subscribed ++ at 0 (Input 2 (sends 7)) ∷ at 0 NewLine ∷ []

-- what the old line brings is read first
the_release_is_read : asks giving_up (at 0 (Input 2 (pubrel 7 0))) ≡ out ((2, pubcomp 7 0) ∷ []) [] (Released 2 (codes "p1") 7 ∷ []) false
unfolding varint
the_release_is_read = refl

abbrev old_first : List Event
old_first = giving_up ++ at 0 (Input 2 (pubrel 7 0)) ∷ at 0 (Input 3 (hello (codes "p1"))) ∷ []

the_release_again_finds_nothing : asks old_first (at 0 (Input 3 (pubrel 7 0))) ≡ out ((3, pubcomp 7 0x92) ∷ []) [] [] false
unfolding varint
the_release_again_finds_nothing = refl

found_nothing_bytes : shortest_of (pubcomp 7 0x92) ≡ bytes "70 03 00 07 92"
unfolding varint
found_nothing_bytes = refl

-- CONNECT is read first: the old line closes, and what it brings later is passed over
a_new_line_takes_over : asks giving_up (at 0 (Input 3 (hello (codes "p1")))) ≡ out ((2, disconnect 0x8e) ∷ (3, welcome true) ∷ []) (2 ∷ []) [] false
unfolding varint
a_new_line_takes_over = refl

taken_over_bytes : shortest_of (disconnect 0x8e) ≡ bytes "e0 01 8e"
unfolding varint
taken_over_bytes = refl

abbrev new_first : List Event
new_first = giving_up ++ at 0 (Input 3 (hello (codes "p1"))) ∷ at 0 (Input 2 (pubrel 7 0)) ∷ []

the_release_on_the_new_line : asks new_first (at 0 (Input 3 (pubrel 7 0))) ≡ out ((3, pubcomp 7 0) ∷ []) [] (Released 2 (codes "p1") 7 ∷ []) false
unfolding varint
the_release_on_the_new_line = refl

released_bytes : shortest_of (pubcomp 7 0) ≡ bytes "70 02 00 07"
unfolding varint
released_bytes = refl

-- accepted, entered and released once in both
accepted_once_old_first : all_reports (old_first ++ at 0 (Input 3 (pubrel 7 0)) ∷ []) blank
    ≡ Accepted 1 ∷ Entered (direct 1 1) (codes "r1") ∷ Released 2 (codes "p1") 7 ∷ []
unfolding varint
accepted_once_old_first = refl

accepted_once_new_first : all_reports (new_first ++ at 0 (Input 3 (pubrel 7 0)) ∷ []) blank
    ≡ Accepted 1 ∷ Entered (direct 1 1) (codes "r1") ∷ Released 2 (codes "p1") 7 ∷ []
unfolding varint
accepted_once_new_first = refl

-- ---- a client that takes one at a time resumes with one released copy and two that wait

abbrev narrow : Packet
narrow = hello_with (codes "r1") (never_expires ∷ property ReceiveMaximum (U16 1) ∷ []) None

abbrev three_copies : List Event
three_copies = in_line 1 narrow
    ++ at 0 (Input 1 (wants 1 topic ExactlyOnce))
    ∷ in_line 2 (hello (codes "p1"))
    ++ burst 2 3 1
    ++ at 0 (Pump 1) ∷ at 0 (Input 1 (pubrec 1 0)) ∷ at 0 (Lost 1) ∷ at 0 NewLine ∷ []

releases_follow_connack : asks three_copies (at 0 (Input 3 narrow)) ≡ out ((3, welcome true) ∷ (3, pubrel 1 0) ∷ []) [] [] false
unfolding varint
releases_follow_connack = refl

-- Worked handshakes: twenty open identifiers, and a group whose member ends (MQTT 5.0, 4.3, 4.8, 4.9).
use Rattle.std.proofs.Common.{◌≡◌, ℕ, zero, suc, ◌+◌, true, false, List, [], ◌∷◌, ◌++◌, None, refl}
use Rattle.std.specs.Prelude.{codes}
use Rattle.mqtt_base.specs.Values.{varint}
use Rattle.mqtt_base.specs.declared.session.Qos.TheVariants.{ExactlyOnce}
use Rattle.mqtt_base.specs.declared.session.Cause.TheVariants.{Share}
use Rattle.mqtt_base.specs.declared.session.CopyId.{CopyId}
use Rattle.mqtt_base.specs.declared.session.Ending.TheVariants.{SessionEnded}
use Rattle.mqtt_props.specs.declared.table.PropName.TheVariants.{SessionExpiryInterval}
use Rattle.mqtt_props.specs.Properties.{U32}
use Rattle.mqtt_packet.specs.declared.codec.packet.Packet.{Packet}
use Rattle.mqtt_packet.specs.codec.Packets.{shortest_of}
use Rattle.mqtt_rules.specs.declared.step.Report.TheVariants.{Accepted, Entered, Ended}
use Rattle.mqtt_records.specs.messages.PassedOn.{property}
use Rattle.mqtt_rules.specs.step.Packets.{pubrec, disconnect}
use Rattle.mqtt_rules.specs.step.State.{Broker}
use Rattle.mqtt_rules.specs.step.Step.{Input, Lost, Pump, Tick}
use Rattle.mqtt_rules.proofs.step_lemmas.examples.Play.{blank, Event, at, runs, asks, reopened, out, hello_with, hello, welcome, in_line, wants, sends, sends_again, copy_out, subscribed, bytes, open_at, burst, all_outputs, all_reports}

-- ---- a publisher that releases nothing: 20 identifiers are open, and a 21st closes its line

abbrev twenty : List Event
twenty = subscribed ++ burst 2 20 1

a_twenty_first_closes : asks twenty (at 0 (Input 2 (sends 21))) ≡ out ((2, disconnect 0x93) ∷ []) (2 ∷ []) [] false
unfolding varint
a_twenty_first_closes = refl

receive_maximum_bytes : shortest_of (disconnect 0x93) ≡ bytes "e0 01 93"
unfolding varint
receive_maximum_bytes = refl

-- after a restart and a resumption the 20 are still open
abbrev restarted : Broker
restarted = reopened 0 (runs (twenty ++ at 0 (Input 2 (sends 21)) ∷ []) blank)

abbrev p1_back : Broker
p1_back = runs (in_line 1 (hello (codes "p1"))) restarted

p1_is_resumed : all_outputs (in_line 1 (hello (codes "p1"))) restarted ≡ (1, welcome true) ∷ []
unfolding varint
p1_is_resumed = refl

twenty_are_open : open_at 2 p1_back ≡ 1 ∷ 2 ∷ 3 ∷ 4 ∷ 5 ∷ 6 ∷ 7 ∷ 8 ∷ 9 ∷ 10 ∷ 11 ∷ 12 ∷ 13 ∷ 14 ∷ 15 ∷ 16 ∷ 17 ∷ 18 ∷ 19 ∷ 20 ∷ []
unfolding varint
twenty_are_open = refl

-- each of them sent again is answered as before, and no copy enters
abbrev burst_again : ℕ → ℕ → List Event
burst_again zero id = []
burst_again (suc k) id = at 0 (Input 1 (sends_again id)) ∷ burst_again k (1 + id)

abbrev received : ℕ → ℕ → List (ℕ × Packet)
received zero id = []
received (suc k) id = (1, pubrec id 0) ∷ received k (1 + id)

repeats_are_answered : all_outputs (burst_again 20 1) p1_back ≡ received 20 1
unfolding varint
repeats_are_answered = refl

repeats_enter_nothing : all_reports (burst_again 20 1) p1_back ≡ []
unfolding varint
repeats_enter_nothing = refl

-- ---- a copy of a group whose member's session ends goes to no other member

abbrev shared : List ℕ
shared = codes "$share/g/a/b"

abbrev by_group : CopyId
by_group = record { publication = 1; birth = 1; cause = Share (codes "g/a/b") }

-- the first member's session ends 5 seconds after its line
abbrev two_members : List Event
two_members = in_line 1 (hello_with (codes "m1") (property SessionExpiryInterval (U32 5) ∷ []) None)
    ++ at 0 (Input 1 (wants 1 shared ExactlyOnce))
    ∷ in_line 2 (hello (codes "m2"))
    ++ at 0 (Input 2 (wants 1 shared ExactlyOnce))
    ∷ in_line 3 (hello (codes "p1"))

one_member_gets_it : asks two_members (at 0 (Input 3 (sends 10))) ≡ out ((3, pubrec 10 0) ∷ []) [] (Accepted 1 ∷ Entered by_group (codes "m1") ∷ []) false
unfolding varint
one_member_gets_it = refl

abbrev member_served : List Event
member_served = two_members ++ at 0 (Input 3 (sends 10)) ∷ []

the_member_is_sent_it : asks member_served (at 0 (Pump 1)) ≡ out ((1, copy_out false 1 []) ∷ []) [] [] false
unfolding varint
the_member_is_sent_it = refl

abbrev member_lost : List Event
member_lost = member_served ++ at 0 (Pump 1) ∷ at 0 (Lost 1) ∷ []

before_its_end_nothing_is_due : asks member_lost (at 4999 Tick) ≡ out [] [] [] false
unfolding varint
before_its_end_nothing_is_due = refl

its_copy_ends_with_it : asks member_lost (at 5000 Tick) ≡ out [] [] (Ended by_group (codes "m1") SessionEnded ∷ []) true
unfolding varint
its_copy_ends_with_it = refl

the_other_member_gets_nothing : asks (member_lost ++ at 5000 Tick ∷ []) (at 5000 (Pump 2)) ≡ out [] [] [] false
unfolding varint
the_other_member_gets_nothing = refl

all_of_the_group : all_reports (member_lost ++ at 5000 Tick ∷ at 5000 Tick ∷ at 5000 (Pump 2) ∷ []) blank
    ≡ Accepted 1 ∷ Entered by_group (codes "m1") ∷ Ended by_group (codes "m1") SessionEnded ∷ []
unfolding varint
all_of_the_group = refl

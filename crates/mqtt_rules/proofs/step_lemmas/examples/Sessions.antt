-- Worked lives of sessions: what keeps a Will, Clean Start, resumption, takeover, restarts, silence (MQTT 5.0, 3.1.2, 3.1.3.2, 3.1.4, 3.14, 4.1).
use Rattle.std.proofs.Common.{◌≡◌, ℕ, Bool, true, false, List, [], ◌∷◌, ◌++◌, Option, Some, None, refl}
use Rattle.std.specs.Prelude.{codes}
use Rattle.mqtt_base.specs.Values.{varint}
use Rattle.mqtt_base.specs.declared.session.Qos.TheVariants.{ExactlyOnce}
use Rattle.mqtt_base.specs.declared.session.Ending.TheVariants.{Expired, SessionEnded}
use Rattle.mqtt_props.specs.declared.table.PropName.TheVariants.{SessionExpiryInterval}
use Rattle.mqtt_props.specs.Properties.{Prop, U32}
use Rattle.mqtt_packet.specs.declared.connect.connect.Will.{Will}
use Rattle.mqtt_packet.specs.declared.codec.packet.Packet.{Packet}
use Rattle.mqtt_packet.specs.declared.codec.packet.Packet.TheVariants.{Connect, Pingreq, Pingresp, Disconnect}
use Rattle.mqtt_flow.specs.declared.outbound.entry.Full.TheVariants.{Refuse}
use Rattle.mqtt_rules.specs.declared.step.Capacity.{Capacity}
use Rattle.mqtt_rules.specs.declared.step.Report.TheVariants.{Accepted, Entered, Ended, WillRefused}
use Rattle.mqtt_rules.specs.step.Packets.{reason, disconnect}
use Rattle.mqtt_records.specs.messages.PassedOn.{property}
use Rattle.mqtt_rules.specs.step.State.{Broker}
use Rattle.mqtt_rules.specs.step.Step.{NewLine, Input, Lost, Pump, Tick}
use Rattle.mqtt_rules.proofs.step_lemmas.examples.Play.{blank, Event, at, step, runs, runs_with, tells_with, asks, reopened, out, never_expires, hello_with, hello, welcome, in_line, wants_with, wish, options, wants, topic, sends, copy_out, direct, births, all_outputs, all_reports}
use Rattle.mqtt_rules.proofs.step_lemmas.examples.Examples.{nameless}
use Rattle.mqtt_rules.proofs.step_lemmas.examples.Moments.{will_with, delayed, mourner, absent}

abbrev ends_after : ℕ → List Prop
ends_after seconds = property SessionExpiryInterval (U32 seconds) ∷ []

-- w1 connects on line 2, while r1 is there for the topic of its Will
abbrev with_will : List Prop → Option Will → List Event
with_will ps will = mourner ++ in_line 2 (hello_with (codes "w1") ps will)

abbrev forever : List Prop
forever = never_expires ∷ []

abbrev at_once : Option Will
at_once = Some (will_with [])

-- ---- DISCONNECT, and other ways to leave

-- it is published once
a_will_is_published_once : all_reports (with_will forever at_once ++ at 0 (Lost 2) ∷ at 10 Tick ∷ in_line 3 (hello (codes "w1")) ++ at 20 (Lost 3) ∷ at 30 Tick ∷ []) blank
    ≡ Accepted 1 ∷ Entered (direct 1 1) (codes "r1") ∷ []
unfolding varint
a_will_is_published_once = refl

-- its sender is the client: No Local bars it
abbrev own_wish : Bool → Packet
own_wish no_local = wants_with 1 [] (wish topic (record (options ExactlyOnce) { no_local = no_local }) ∷ [])

abbrev own_will : Bool → List Event
own_will no_local = in_line 1 (hello_with (codes "w1") forever at_once) ++ at 0 (Input 1 (own_wish no_local)) ∷ []

ones_will_comes_back : asks (own_will false) (at 0 (Lost 1)) ≡ out [] (1 ∷ []) (Accepted 1 ∷ Entered (direct 1 1) (codes "w1") ∷ []) false
unfolding varint
ones_will_comes_back = refl

no_local_bars_ones_will : asks (own_will true) (at 0 (Lost 1)) ≡ out [] (1 ∷ []) (Accepted 1 ∷ []) false
unfolding varint
no_local_bars_ones_will = refl

abbrev leaves_for : ℕ → Packet
leaves_for seconds = Disconnect (record { reason = reason 0; properties = ends_after seconds })

-- a DISCONNECT sets the Session Expiry Interval
abbrev left : List Event
left = with_will forever None ++ at 0 (Input 2 (leaves_for 5)) ∷ []

the_interval_is_set : births (runs (left ++ at 4999 Tick ∷ []) blank) ≡ 1 ∷ 2 ∷ []
unfolding varint
the_interval_is_set = refl

the_session_ends_by_it : births (runs (left ++ at 5000 Tick ∷ []) blank) ≡ 1 ∷ []
unfolding varint
the_session_ends_by_it = refl

an_interval_of_zero_ends_it : births (runs (with_will forever None ++ at 0 (Input 2 (leaves_for 0)) ∷ []) blank) ≡ 1 ∷ []
unfolding varint
an_interval_of_zero_ends_it = refl

-- ---- Clean Start: a Will that waits is published, the old session ends, and a new one begins

abbrev hello_clean : List ℕ → Packet
hello_clean name = Connect (record {
  clean_start = true;
  keep_alive = 0;
  properties = forever;
  client_identifier = name;
  will = None;
  user_name = None;
  password = None;
})

-- the old session is there for its own Will
abbrev old_one : List Event
old_one = with_will forever (Some delayed) ++ at 0 (Input 2 (wants 1 topic ExactlyOnce)) ∷ at 0 (Lost 2) ∷ at 0 NewLine ∷ []

a_clean_start_ends_the_old_session : asks old_one (at 0 (Input 3 (hello_clean (codes "w1"))))
    ≡ out ((3, welcome false) ∷ []) [] (Accepted 1 ∷ Entered (direct 1 1) (codes "r1") ∷ Entered (direct 1 2) (codes "w1") ∷ Ended (direct 1 2) (codes "w1") SessionEnded ∷ []) false
unfolding varint
a_clean_start_ends_the_old_session = refl

and_begins_a_new_one : births (runs (old_one ++ at 0 (Input 3 (hello_clean (codes "w1"))) ∷ []) blank) ≡ 1 ∷ 3 ∷ []
unfolding varint
and_begins_a_new_one = refl

-- ---- resumption

-- a session whose end is due isn't resumed, though no tick came
abbrev overdue : List Event
overdue = with_will (ends_after 5) (Some delayed) ++ at 0 (Lost 2) ∷ at 6000 NewLine ∷ []

what_is_due_comes_first : asks overdue (at 6000 (Input 3 (hello (codes "w1")))) ≡ out ((3, welcome false) ∷ []) [] (Accepted 1 ∷ Entered (direct 1 1) (codes "r1") ∷ []) false
unfolding varint
what_is_due_comes_first = refl

in_time_it_is_resumed : asks (with_will (ends_after 5) (Some delayed) ++ at 0 (Lost 2) ∷ at 4000 NewLine ∷ []) (at 4999 (Input 3 (hello (codes "w1")))) ≡ out ((3, welcome true) ∷ []) [] [] false
unfolding varint
in_time_it_is_resumed = refl

-- it has the new interval, and the new Will or none
abbrev resumed_by : Packet → List Event
resumed_by packet = with_will forever (Some delayed) ++ at 0 (Lost 2) ∷ at 1000 NewLine ∷ at 1000 (Input 3 packet) ∷ []

the_old_will_is_gone : asks (resumed_by (hello (codes "w1"))) (at 1000 (Lost 3)) ≡ out [] (3 ∷ []) [] false
unfolding varint
the_old_will_is_gone = refl

the_new_will_is_there : asks (resumed_by (hello_with (codes "w1") forever at_once)) (at 1000 (Lost 3)) ≡ out [] (3 ∷ []) (Accepted 1 ∷ Entered (direct 1 1) (codes "r1") ∷ []) false
unfolding varint
the_new_will_is_there = refl

abbrev short_stay : List Event
short_stay = resumed_by (hello_with (codes "w1") (ends_after 5) None) ++ at 2000 (Lost 3) ∷ []

before_the_new_interval : births (runs (short_stay ++ at 6999 Tick ∷ []) blank) ≡ 1 ∷ 2 ∷ []
unfolding varint
before_the_new_interval = refl

by_the_new_interval : births (runs (short_stay ++ at 7000 Tick ∷ []) blank) ≡ 1 ∷ []
unfolding varint
by_the_new_interval = refl

-- ---- takeover

-- the old line's Will is published, unless it waits
a_takeover_publishes_the_will : asks (with_will forever at_once ++ at 0 NewLine ∷ []) (at 0 (Input 3 (hello (codes "w1"))))
    ≡ out ((2, disconnect 0x8e) ∷ (3, welcome true) ∷ []) (2 ∷ []) (Accepted 1 ∷ Entered (direct 1 1) (codes "r1") ∷ []) false
unfolding varint
a_takeover_publishes_the_will = refl

a_takeover_cancels_a_will_that_waits : asks (with_will forever (Some delayed) ++ at 0 NewLine ∷ []) (at 0 (Input 3 (hello (codes "w1"))))
    ≡ out ((2, disconnect 0x8e) ∷ (3, welcome true) ∷ []) (2 ∷ []) [] false
unfolding varint
a_takeover_cancels_a_will_that_waits = refl

-- a session that ends with its line isn't resumed
a_takeover_of_a_session_of_no_time : asks (with_will [] at_once ++ at 0 NewLine ∷ []) (at 0 (Input 3 (hello (codes "w1"))))
    ≡ out ((2, disconnect 0x8e) ∷ (3, welcome false) ∷ []) (2 ∷ []) (Accepted 1 ∷ Entered (direct 1 1) (codes "r1") ∷ []) false
unfolding varint
a_takeover_of_a_session_of_no_time = refl

-- ---- a restart closes what was connected, at its moment

a_restart_ends_a_session_of_no_time : births (reopened 0 (runs (with_will [] at_once) blank)) ≡ 1 ∷ []
unfolding varint
a_restart_ends_a_session_of_no_time = refl

and_publishes_its_will : all_outputs (in_line 1 (hello (codes "r1")) ++ at 0 (Pump 1) ∷ []) (reopened 0 (runs (with_will [] at_once) blank))
    ≡ (1, welcome true) ∷ (1, copy_out false 1 []) ∷ []
unfolding varint
and_publishes_its_will = refl

before_an_end_from_the_restart : births (step (at 7999 Tick) (reopened 3000 (runs (with_will (ends_after 5) None) blank))) ≡ 1 ∷ 2 ∷ []
unfolding varint
before_an_end_from_the_restart = refl

an_end_from_the_restart : births (step (at 8000 Tick) (reopened 3000 (runs (with_will (ends_after 5) None) blank))) ≡ 1 ∷ []
unfolding varint
an_end_from_the_restart = refl

-- the lines are gone
no_line_outlives_a_restart : (reopened 0 (runs (with_will forever None) blank)).lines ≡ []
unfolding varint
no_line_outlives_a_restart = refl

-- ---- moments only grow: the greatest that was handed in, and the stored one after a restart

an_earlier_moment_is_not_taken : asks (absent ++ at 5000 NewLine ∷ []) (at 0 Tick) ≡ out [] [] (Ended (direct 1 1) (codes "r1") Expired ∷ []) true
unfolding varint
an_earlier_moment_is_not_taken = refl

the_stored_moment_counts : births (step (at 0 Tick) (reopened 0 (runs (with_will (ends_after 5) None ++ at 0 (Lost 2) ∷ at 8000 NewLine ∷ at 8000 (Input 3 (hello (codes "p1"))) ∷ []) blank))) ≡ 1 ∷ 3 ∷ []
unfolding varint
the_stored_moment_counts = refl

-- ---- silence

-- each packet counts, and none if Keep Alive is 0
abbrev heard : List Event
heard = in_line 1 nameless ++ at 60000 (Input 1 Pingreq) ∷ []

a_ping_is_answered : asks (in_line 1 nameless) (at 60000 (Input 1 Pingreq)) ≡ out ((1, Pingresp) ∷ []) [] [] false
a_ping_is_answered = refl

a_packet_was_heard : asks heard (at 149999 Tick) ≡ out [] [] [] false
a_packet_was_heard = refl

then_silence : asks heard (at 150000 Tick) ≡ out ((1, disconnect 0x8d) ∷ []) (1 ∷ []) [] true
then_silence = refl

silence_keeps_the_will : asks (mourner ++ in_line 2 (Connect (record {
  clean_start = false;
  keep_alive = 60;
  properties = forever;
  client_identifier = codes "w1";
  will = at_once;
  user_name = None;
  password = None;
}))) (at 90000 Tick) ≡ out ((2, disconnect 0x8d) ∷ []) (2 ∷ []) (Accepted 1 ∷ Entered (direct 1 1) (codes "r1") ∷ []) true
unfolding varint
silence_keeps_the_will = refl

without_keep_alive_none_is_silent : asks (in_line 1 (hello (codes "r1"))) (at 100000000 Tick) ≡ out [] [] [] false
without_keep_alive_none_is_silent = refl

-- a line without CONNECT
before_ten_seconds : asks (at 0 NewLine ∷ []) (at 9999 Tick) ≡ out [] [] [] false
before_ten_seconds = refl

ten_seconds_without_connect : asks (at 0 NewLine ∷ []) (at 10000 Tick) ≡ out [] (1 ∷ []) [] true
ten_seconds_without_connect = refl

-- ---- a Will for which a queue has no room is refused

abbrev narrow : Capacity
narrow = record { full = Refuse; queue = 1; sessions = 1000; retained = 1000; lines = 64 }

abbrev crowded : Broker
crowded = runs_with narrow (with_will forever at_once ++ at 0 (Input 2 (sends 10)) ∷ []) blank

a_will_without_room_is_refused : tells_with narrow (at 0 (Lost 2)) crowded ≡ out [] (2 ∷ []) (WillRefused 2 (codes "w1") ∷ []) false
unfolding varint
a_will_without_room_is_refused = refl

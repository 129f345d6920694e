-- Full tables: 64 lines, 1,000 sessions, 100 subscriptions, 1,000 retained messages, or fewer (ours).
use Rattle.std.proofs.Common.{◌≡◌, ℕ, zero, suc, true, false, List, [], ◌∷◌, ◌++◌, length, None, refl}
use Rattle.std.specs.Prelude.{codes, replicate}
use Rattle.mqtt_base.specs.Values.{varint}
use Rattle.mqtt_base.specs.declared.session.Qos.TheVariants.{AtMostOnce, AtLeastOnce, ExactlyOnce}
use Rattle.mqtt_packet.specs.declared.codec.publish.Delivery.TheVariants as delivery
use Rattle.mqtt_packet.specs.declared.codec.packet.Packet.{Packet}
use Rattle.mqtt_packet.specs.declared.codec.packet.Packet.TheVariants.{Publish}
use Rattle.mqtt_flow.specs.declared.outbound.entry.Full.TheVariants.{Refuse}
use Rattle.mqtt_records.specs.declared.messages.message.RetainedMessage.{RetainedMessage}
use Rattle.mqtt_records.specs.declared.state.subscription.Subscription.{Subscription}
use Rattle.mqtt_records.specs.declared.state.session.Session.{Session}
use Rattle.mqtt_records.specs.state.Records.{nothing}
use Rattle.mqtt_rules.specs.declared.step.Capacity.{Capacity}
use Rattle.mqtt_rules.specs.declared.step.Report.TheVariants.{Accepted}
use Rattle.mqtt_rules.specs.step.Packets.{puback, suback, disconnect}
use Rattle.mqtt_rules.specs.step.State.{Broker}
use Rattle.mqtt_rules.specs.step.Step.{NewLine, Input, Lost, can_link, takes_line}
use Rattle.mqtt_rules.proofs.step_lemmas.examples.Play.{turned_away, nothing_at_all, linked, usual, blank, Event, at, step, runs, tells, tells_with, out, hello, hello_with, welcome, in_line, wants_with, wish, options, wants, gives_up, topic, hi, Keeps, nothing_written, clean, away, letters, keeps}

-- ---- 64 lines (ours)

abbrev all_lines : Broker
all_lines = runs (replicate 64 (at 0 NewLine)) blank

sixty_four_lines : length all_lines.lines ≡ 64
sixty_four_lines = refl

no_65th_line : step (at 0 NewLine) all_lines ≡ all_lines
no_65th_line = refl

-- as many as are asked for, and never more than 1,000
abbrev a_pair : Capacity
a_pair = record usual { lines = 2 }

a_second_is_given : can_link a_pair (runs (replicate 1 (at 0 NewLine)) blank) ≡ true
a_second_is_given = refl

no_third_is : can_link a_pair (runs (replicate 2 (at 0 NewLine)) blank) ≡ false
no_third_is = refl

the_1000th_is_given : takes_line (record usual { lines = 2000 }) 999 ≡ true
the_1000th_is_given = refl

no_1001st_is : takes_line (record usual { lines = 2000 }) 1000 ≡ false
no_1001st_is = refl

its_place_is_free_when_one_is_lost : (step (at 0 NewLine) (step (at 0 (Lost 7)) all_lines)).given ≡ 65
its_place_is_free_when_one_is_lost = refl

-- ---- 1,000 sessions (ours)

abbrev crowd_from : ℕ → ℕ → List Session
crowd_from zero birth = []
crowd_from (suc k) birth = away birth (letters birth) ∷ crowd_from k (suc birth)

abbrev crowd : ℕ → Broker
crowd count = let b = runs linked blank in record b { records = record nothing { births = count; sessions = crowd_from count 1 } }

the_last_session_has_a_place : tells (at 0 (Input 1 (hello (codes "r1")))) (crowd 999) ≡ out ((1, welcome false) ∷ []) [] [] false
unfolding varint
the_last_session_has_a_place = refl

one_more_has_none : tells (at 0 (Input 1 (hello (codes "r1")))) (crowd 1000) ≡ turned_away 0x97
unfolding varint
one_more_has_none = refl

and_nothing_is_stored_for_it : Keeps usual (at 0 (Input 1 (hello (codes "r1")))) (crowd 1000)
unfolding varint
and_nothing_is_stored_for_it = nothing_written usual (at 0 (Input 1 (hello (codes "r1")))) (crowd 1000) refl

one_without_a_name_has_none : tells (at 0 (Input 1 (hello []))) (crowd 1000) ≡ turned_away 0x97
unfolding varint
one_without_a_name_has_none = refl

a_name_that_we_assign_comes_first : tells (at 0 (Input 1 (hello (codes "auto-9")))) (crowd 1000) ≡ turned_away 0x85
unfolding varint
a_name_that_we_assign_comes_first = refl

one_that_stands_is_resumed : tells (at 0 (Input 1 (hello (letters 1000)))) (crowd 1000) ≡ out ((1, welcome true) ∷ []) [] [] false
unfolding varint
one_that_stands_is_resumed = refl

-- the place of a session that Clean Start ends is free again
its_own_place_is_free : tells (at 0 (Input 1 (clean (letters 7)))) (crowd 1000) ≡ out ((1, welcome false) ∷ []) [] [] false
unfolding varint
its_own_place_is_free = refl

-- so is that of a session which ends with the line that is taken over
abbrev short_lived : List Event
short_lived = in_line 1 (hello_with (codes "r1") [] None) ++ at 0 NewLine ∷ []

abbrev crowded : Broker
crowded = let b = runs short_lived blank in record b {
  records = record b.records {
    births = 1000;
    sessions = b.records.sessions
        ++ crowd_from 999 2;
  };
}

the_place_of_one_taken_over_is_free : tells (at 0 (Input 2 (hello (codes "r1")))) crowded
    ≡ out ((1, disconnect 0x8e) ∷ (2, welcome false) ∷ []) (1 ∷ []) [] false
unfolding varint
the_place_of_one_taken_over_is_free = refl

-- ---- 100 subscriptions (ours)

abbrev wanted_from : ℕ → ℕ → List Subscription
wanted_from zero place = []
wanted_from (suc k) place = record { filter = letters place; place = place; options = options ExactlyOnce; identifier = None }
    ∷ wanted_from k (suc place)

abbrev with_filters : List Subscription → List Session → List Session
with_filters subs [] = []
with_filters subs (s ∷ ss) = record s { subscriptions = subs } ∷ ss

abbrev wanting : ℕ → Broker
wanting count = let b = runs (in_line 1 (hello (codes "r1"))) blank in
    record b { records = record b.records { subscribes = count; sessions = with_filters (wanted_from count 1) b.records.sessions } }

the_100th_filter : tells (at 0 (Input 1 (wants 100 topic AtLeastOnce))) (wanting 99) ≡ out ((1, suback 100 (1 ∷ [])) ∷ []) [] [] false
unfolding varint
the_100th_filter = refl

no_101st_filter : tells (at 0 (Input 1 (wants 101 topic AtLeastOnce))) (wanting 100) ≡ out ((1, suback 101 (0x97 ∷ [])) ∷ []) [] [] false
unfolding varint
no_101st_filter = refl

and_nothing_is_stored_of_it : Keeps usual (at 0 (Input 1 (wants 101 topic AtLeastOnce))) (wanting 100)
unfolding varint
and_nothing_is_stored_of_it = nothing_written usual (at 0 (Input 1 (wants 101 topic AtLeastOnce))) (wanting 100) refl

abbrev some_filters : Packet
some_filters = wants_with 101 [] (
    wish (codes "a/#/b") (options ExactlyOnce) ∷ wish topic (options ExactlyOnce) ∷ wish (letters 7) (options AtMostOnce) ∷ [])

each_filter_has_its_code : tells (at 0 (Input 1 some_filters)) (wanting 100) ≡ out ((1, suback 101 (0x8f ∷ 0x97 ∷ 0 ∷ [])) ∷ []) [] [] false
unfolding varint
each_filter_has_its_code = refl

one_that_is_given_up_makes_place : tells (at 0 (Input 1 (wants 102 topic AtLeastOnce)))
    (step (at 0 (Input 1 (gives_up 101 (letters 7 ∷ [])))) (wanting 100))
    ≡ out ((1, suback 102 (1 ∷ [])) ∷ []) [] [] false
unfolding varint
one_that_is_given_up_makes_place = refl

-- ---- 1,000 retained messages (ours)

abbrev kept_from : ℕ → ℕ → List RetainedMessage
kept_from zero place = []
kept_from (suc k) place = record {
  place = place;
  sender = codes "p1";
  publication = place;
  qos = AtMostOnce;
  content = record { topic = letters place; properties = []; payload = hi; arrived = 0 };
} ∷ kept_from k (suc place)

abbrev retaining : ℕ → Broker
retaining count = let b = runs (in_line 1 (hello (codes "r1"))) blank in
    record b { records = record b.records { publications = count; retained = kept_from count 1 } }

the_1000th_topic : tells (at 0 (Input 1 (keeps topic 1))) (retaining 999) ≡ out ((1, puback 1 0x10) ∷ []) [] (Accepted 1000 ∷ []) false
unfolding varint
the_1000th_topic = refl

no_1001st_topic : tells (at 0 (Input 1 (keeps topic 1))) (retaining 1000) ≡ out ((1, puback 1 0x97) ∷ []) [] [] false
unfolding varint
no_1001st_topic = refl

and_nothing_is_retained_of_it : Keeps usual (at 0 (Input 1 (keeps topic 1))) (retaining 1000)
unfolding varint
and_nothing_is_retained_of_it = nothing_written usual (at 0 (Input 1 (keeps topic 1))) (retaining 1000) refl

a_topic_that_stands_is_replaced : tells (at 0 (Input 1 (keeps (letters 7) 1))) (retaining 1000)
    ≡ out ((1, puback 1 0x10) ∷ []) [] (Accepted 1001 ∷ []) false
unfolding varint
a_topic_that_stands_is_replaced = refl

abbrev kept_count : Event → ℕ
kept_count e = length (step e (retaining 1000)).records.retained

and_takes_no_further_place : kept_count (at 0 (Input 1 (keeps (letters 7) 1))) ≡ 1000
unfolding varint
and_takes_no_further_place = refl

-- an empty message is none to keep
abbrev empties : List ℕ → Packet
empties name = Publish (record { delivery = delivery.AtMostOnce; retain = true; topic = name; properties = []; payload = [] })

an_empty_message_needs_no_place : tells (at 0 (Input 1 (empties topic))) (retaining 1000) ≡ out [] [] (Accepted 1001 ∷ []) false
unfolding varint
an_empty_message_needs_no_place = refl

and_removes_the_one_that_stands : kept_count (at 0 (Input 1 (empties (letters 7)))) ≡ 999
unfolding varint
and_removes_the_one_that_stands = refl

-- one of QoS 0 that isn't accepted has no answer
abbrev keeps_low : Packet
keeps_low = Publish (record { delivery = delivery.AtMostOnce; retain = true; topic = topic; properties = []; payload = hi })

a_refused_one_of_lowest_service : tells (at 0 (Input 1 keeps_low)) (retaining 1000) ≡ nothing_at_all
unfolding varint
a_refused_one_of_lowest_service = refl

-- ---- a table above a smaller limit is full (ours)

abbrev few : Capacity
few = record { full = Refuse; queue = 2; sessions = 2; retained = 2; lines = 64 }

no_session_beside_more_than_the_limit : tells_with few (at 0 (Input 1 (hello (codes "r1")))) (crowd 3) ≡ turned_away 0x97
unfolding varint
no_session_beside_more_than_the_limit = refl

those_that_stand_are_resumed : tells_with few (at 0 (Input 1 (hello (letters 3)))) (crowd 3) ≡ out ((1, welcome true) ∷ []) [] [] false
unfolding varint
those_that_stand_are_resumed = refl

no_topic_beside_more_than_the_limit : tells_with few (at 0 (Input 1 (keeps topic 1))) (retaining 3)
    ≡ out ((1, puback 1 0x97) ∷ []) [] [] false
unfolding varint
no_topic_beside_more_than_the_limit = refl

those_that_stand_are_replaced : tells_with few (at 0 (Input 1 (keeps (letters 3) 1))) (retaining 3)
    ≡ out ((1, puback 1 0x10) ∷ []) [] (Accepted 4 ∷ []) false
unfolding varint
those_that_stand_are_replaced = refl

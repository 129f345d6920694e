-- Groups of shared subscriptions in the broker's step: who gets a message to a/b (MQTT 5.0, 3.3.4, 4.8.2).
use Rattle.std.proofs.Common.{◌≡◌, ℕ, Bool, true, false, cond, List, [], ◌∷◌, ◌++◌, map, refl, Option, Some, None}
use Rattle.std.specs.Prelude.{codes, nat_eq, bytes_eq}
use Rattle.mqtt_base.specs.Values.{varint}
use Rattle.mqtt_base.specs.declared.session.Qos.{Qos}
use Rattle.mqtt_base.specs.declared.session.Qos.TheVariants.{AtMostOnce, AtLeastOnce, ExactlyOnce}
use Rattle.mqtt_base.specs.declared.session.Cause.TheVariants.{Share}
use Rattle.mqtt_base.specs.declared.session.CopyId.{CopyId}
use Rattle.mqtt_props.specs.Properties.{Prop}
use Rattle.mqtt_packet.specs.declared.connect.connect.Will.{Will}
use Rattle.mqtt_packet.specs.declared.codec.publish.Delivery.TheVariants as delivery
use Rattle.mqtt_packet.specs.declared.codec.packet.Packet.{Packet}
use Rattle.mqtt_packet.specs.declared.codec.packet.Packet.TheVariants.{Publish}
use Rattle.mqtt_flow.specs.declared.outbound.entry.Full.TheVariants.{Refuse}
use Rattle.mqtt_routes.specs.routing.Intended.{Publication, Copy, published, members as members_of, groups}
use Rattle.mqtt_routes.specs.routing.Acceptance.{Routed, routed}
use Rattle.mqtt_rules.specs.declared.step.Capacity.{Capacity}
use Rattle.mqtt_rules.specs.declared.step.Report.TheVariants.{Accepted, Entered}
use Rattle.mqtt_records.specs.messages.PassedOn.{identified}
use Rattle.mqtt_rules.specs.step.Packets.{pubrec}
use Rattle.mqtt_rules.specs.step.State.{Broker, MemberChoice}
use Rattle.mqtt_rules.specs.step.Routing.{subscribers, answers}
use Rattle.mqtt_rules.specs.step.Step.{Input, Lost, Pump, Outcome, env_of, opened}
use Rattle.mqtt_rules.proofs.step_lemmas.examples.Play.{usual, blank, first, Event, at, runs, tells, asks, out, hello, hello_with, in_line, wants_with, wish, options, wants, gives_up, topic, message, sends, copy_out, direct, tells_by, runs_by, Keeps, nothing_written, narrow, waiting, queued, low, shared, in_group}

-- ---- the sessions: s1 has two filters that match, s2 one of QoS 0, s3 and s4 are members of a group; p publishes

abbrev both : List Prop
both = identified 1 ∷ identified 2 ∷ []

abbrev members : Qos → List Event
members last =
    in_line 1 (hello (codes "s1"))
    ++ at 0 (Input 1 (wants_with 1 (identified 1 ∷ []) (wish (codes "a/#") (options AtLeastOnce) ∷ [])))
    ∷ at 0 (Input 1 (wants_with 2 (identified 2 ∷ []) (wish topic (options ExactlyOnce) ∷ [])))
    ∷ in_line 2 (hello (codes "s2"))
    ++ at 0 (Input 2 (wants 1 (codes "+/b") AtMostOnce))
    ∷ in_line 3 (hello (codes "s3"))
    ++ at 0 (Input 3 (wants 1 shared ExactlyOnce))
    ∷ in_line 4 (hello (codes "s4"))
    ++ at 0 (Input 4 (wants 1 shared last))
    ∷ in_line 5 (hello (codes "p"))

abbrev there : Broker
there = runs (members AtLeastOnce) blank

-- the member chosen for a message's only group, by its place among the eligible ones
abbrev nth : ℕ → MemberChoice
nth i number sender = i ∷ []

-- what is told of the message with this number: s1's copy, s2's at once, and that of the member chosen
abbrev goes_to : ℕ → ℕ → List ℕ → Outcome
goes_to number birth client = out ((2, low []) ∷ (5, pubrec 10 0) ∷ []) []
    (Accepted number ∷ Entered (direct number 1) (codes "s1") ∷ Entered (in_group number birth) client ∷ []) false

one_copy_a_session_and_one_a_group : tells_by usual first (at 0 (Input 5 (sends 10))) there ≡ goes_to 1 3 (codes "s3")
unfolding varint
one_copy_a_session_and_one_a_group = refl

the_other_member_by_choice : tells_by usual (nth 1) (at 0 (Input 5 (sends 10))) there ≡ goes_to 1 4 (codes "s4")
unfolding varint
the_other_member_by_choice = refl

a_choice_beyond_the_members_names_the_first : tells_by usual (nth 2) (at 0 (Input 5 (sends 10))) there ≡ goes_to 1 3 (codes "s3")
unfolding varint
a_choice_beyond_the_members_names_the_first = refl

-- by a choice that goes round: after s3 comes s4, then s3
abbrev round : MemberChoice
round number sender = cond (nat_eq number 2) (1 ∷ []) (0 ∷ [])

the_second_goes_to_the_next_member : tells_by usual round (at 0 (Input 5 (sends 10)))
    (runs_by usual round (at 0 (Input 5 (sends 11)) ∷ []) there) ≡ goes_to 2 4 (codes "s4")
unfolding varint
the_second_goes_to_the_next_member = refl

the_third_begins_anew : tells_by usual round (at 0 (Input 5 (sends 10)))
    (runs_by usual round (at 0 (Input 5 (sends 11)) ∷ at 0 (Input 5 (sends 12)) ∷ []) there) ≡ goes_to 3 3 (codes "s3")
unfolding varint
the_third_begins_anew = refl

-- ---- what the copies are like: one copy for both filters of s1, and the service that was granted

abbrev sent_by : ℕ → Broker
sent_by i = runs_by usual (nth i) (at 0 (Input 5 (sends 10)) ∷ []) there

both_identifiers : tells (at 0 (Pump 1)) (sent_by 0) ≡ out ((1, copy_out false 1 both) ∷ []) [] [] false
unfolding varint
both_identifiers = refl

a_member_gets_its_copy : tells (at 0 (Pump 3)) (sent_by 0) ≡ out ((3, copy_out false 1 []) ∷ []) [] [] false
unfolding varint
a_member_gets_its_copy = refl

no_copy_for_the_other_member : tells (at 0 (Pump 4)) (sent_by 0) ≡ out [] [] [] false
unfolding varint
no_copy_for_the_other_member = refl

abbrev at_least_once : Packet
at_least_once = Publish (record (message 10) { delivery = delivery.AtLeastOnce false 1 })

at_the_lesser_service : tells (at 0 (Pump 4)) (sent_by 1) ≡ out ((4, at_least_once) ∷ []) [] [] false
unfolding varint
at_the_lesser_service = refl

-- ---- room: two copies wait for s3, and a queue takes two

abbrev full_third : Broker → Broker
full_third b = queued 3 (waiting 2 1) 2 b

abbrev full_both : Broker → Broker
full_both b = queued 4 (waiting 2 1) 2 (full_third b)

a_member_without_room_is_passed_over : tells_by (narrow Refuse 2) first (at 0 (Input 5 (sends 10))) (full_third there)
    ≡ goes_to 3 4 (codes "s4")
unfolding varint
a_member_without_room_is_passed_over = refl

and_by_any_choice : tells_by (narrow Refuse 2) (nth 1) (at 0 (Input 5 (sends 10))) (full_third there) ≡ goes_to 3 4 (codes "s4")
unfolding varint
and_by_any_choice = refl

no_member_has_room : tells_by (narrow Refuse 2) first (at 0 (Input 5 (sends 10))) (full_both there)
    ≡ out ((5, pubrec 10 0x97) ∷ []) [] [] false
unfolding varint
no_member_has_room = refl

no_member_has_room_and_nothing_changed : Keeps (narrow Refuse 2) (at 0 (Input 5 (sends 10))) (full_both there)
unfolding varint
no_member_has_room_and_nothing_changed = nothing_written (narrow Refuse 2) (at 0 (Input 5 (sends 10))) (full_both there) refl

-- s5, of QoS 0, takes the place of s4
abbrev with_fifth : List Event
with_fifth = members AtLeastOnce ++ at 0 (Input 4 (gives_up 2 (shared ∷ []))) ∷ in_line 6 (hello (codes "s5"))
    ++ at 0 (Input 6 (wants 1 shared AtMostOnce)) ∷ []

abbrev fifth_away : Broker
fifth_away = runs (with_fifth ++ at 0 (Lost 6) ∷ []) blank

one_member_lacks_room_and_one_is_away : tells_by (narrow Refuse 2) first (at 0 (Input 5 (sends 10))) (full_third fifth_away)
    ≡ out ((5, pubrec 10 0x97) ∷ []) [] [] false
unfolding varint
one_member_lacks_room_and_one_is_away = refl

a_member_that_is_away_is_passed_over : tells_by (narrow Refuse 2) (nth 1) (at 0 (Input 5 (sends 10))) fifth_away ≡ goes_to 1 3 (codes "s3")
unfolding varint
a_member_that_is_away_is_passed_over = refl

a_member_of_lowest_service_needs_no_room : tells_by (narrow Refuse 2) first (at 0 (Input 5 (sends 10))) (full_third (runs with_fifth blank))
    ≡ out ((2, low []) ∷ (6, low []) ∷ (5, pubrec 10 0) ∷ []) [] (Accepted 3 ∷ Entered (direct 3 1) (codes "s1") ∷ []) false
unfolding varint
a_member_of_lowest_service_needs_no_room = refl

-- a member's direct copy takes the room first
abbrev also_direct : Broker
also_direct = runs (in_line 1 (hello (codes "s1")) ++ at 0 (Input 1 (wants 1 topic ExactlyOnce))
    ∷ at 0 (Input 1 (wants 2 shared ExactlyOnce)) ∷ in_line 2 (hello (codes "p"))) blank

the_direct_copy_takes_the_room : tells_by (narrow Refuse 1) first (at 0 (Input 2 (sends 10))) also_direct
    ≡ out ((2, pubrec 10 0x97) ∷ []) [] [] false
unfolding varint
the_direct_copy_takes_the_room = refl

a_direct_copy_and_one_of_the_group : tells_by (narrow Refuse 2) first (at 0 (Input 2 (sends 10))) also_direct
    ≡ out ((2, pubrec 10 0) ∷ []) [] (Accepted 1 ∷ Entered (direct 1 1) (codes "s1") ∷ Entered (in_group 1 1) (codes "s1") ∷ []) false
unfolding varint
a_direct_copy_and_one_of_the_group = refl

-- ---- QoS 0: only a member that is connected is eligible, and its copy goes out after the direct ones

nobody_of_the_group_is_connected : tells (at 0 (Input 5 (low []))) (runs (at 0 (Lost 3) ∷ at 0 (Lost 4) ∷ []) there)
    ≡ out ((1, low both) ∷ (2, low []) ∷ []) [] (Accepted 1 ∷ []) false
unfolding varint
nobody_of_the_group_is_connected = refl

the_member_that_is_connected : tells (at 0 (Input 5 (low []))) (runs (at 0 (Lost 3) ∷ []) there)
    ≡ out ((1, low both) ∷ (2, low []) ∷ (4, low []) ∷ []) [] (Accepted 1 ∷ []) false
unfolding varint
the_member_that_is_connected = refl

-- ---- two groups

abbrev other : List ℕ
other = codes "$share/h/a/b"

abbrev in_other : ℕ → CopyId
in_other birth = record { publication = 1; birth = birth; cause = Share (codes "h/a/b") }

-- m1 and m2 are members of both
abbrev two_groups : List Event
two_groups =
    in_line 1 (hello (codes "m1"))
    ++ at 0 (Input 1 (wants 1 shared ExactlyOnce))
    ∷ at 0 (Input 1 (wants 2 other ExactlyOnce))
    ∷ in_line 2 (hello (codes "m2"))
    ++ at 0 (Input 2 (wants 1 shared ExactlyOnce))
    ∷ at 0 (Input 2 (wants 2 other ExactlyOnce))
    ∷ in_line 3 (hello (codes "p"))

abbrev second_then_first : MemberChoice
second_then_first number sender = 1 ∷ 0 ∷ []

a_choice_for_each_group : tells_by usual second_then_first (at 0 (Input 3 (sends 10))) (runs two_groups blank)
    ≡ out ((3, pubrec 10 0) ∷ []) [] (Accepted 1 ∷ Entered (in_group 1 2) (codes "m2") ∷ Entered (in_other 1) (codes "m1") ∷ []) false
unfolding varint
a_choice_for_each_group = refl

-- the first group has a new member only, so the other one is older
abbrev younger_first : List Event
younger_first = two_groups ++ at 0 (Input 1 (gives_up 3 (shared ∷ []))) ∷ at 0 (Input 2 (gives_up 3 (shared ∷ [])))
    ∷ at 0 (Input 2 (wants 4 shared ExactlyOnce)) ∷ []

groups_come_by_their_oldest_member : tells (at 0 (Input 3 (sends 10))) (runs younger_first blank)
    ≡ out ((3, pubrec 10 0) ∷ []) [] (Accepted 1 ∷ Entered (in_other 1) (codes "m1") ∷ Entered (in_group 1 2) (codes "m2") ∷ []) false
unfolding varint
groups_come_by_their_oldest_member = refl

-- as the table of subscriptions has them
abbrev to_topic : Publication
to_topic = published (codes "p") topic 2 false

abbrev groups_in : List Event → List (List ℕ)
groups_in es = groups (members_of to_topic (subscribers (runs es blank).records))

the_groups_of_the_table : groups_in two_groups ≡ shared ∷ other ∷ []
unfolding varint
the_groups_of_the_table = refl

the_older_group_comes_first : groups_in younger_first ≡ other ∷ shared ∷ []
unfolding varint
the_older_group_comes_first = refl

-- and as it is routed there
abbrev goes_where : Capacity → ℕ → Broker → Option Routed
goes_where limits i b = routed (answers (env_of limits (nth i) b) b.records) to_topic (i ∷ []) (subscribers b.records)

abbrev direct_copies : List Copy
direct_copies = record { birth = 1; qos = 2; retain = false; identifiers = 1 ∷ 2 ∷ [] }
    ∷ record { birth = 2; qos = 0; retain = false; identifiers = [] } ∷ []

abbrev with_member : ℕ → ℕ → Option Routed
with_member birth qos = Some (record {
  direct = direct_copies;
  served = record { group = codes "g/a/b"; copy = Some (record { birth = birth; qos = qos; retain = false; identifiers = [] }) } ∷ [];
})

the_first_member_is_routed_to : goes_where usual 0 there ≡ with_member 3 2
unfolding varint
the_first_member_is_routed_to = refl

or_the_second : goes_where usual 1 there ≡ with_member 4 1
unfolding varint
or_the_second = refl

a_full_member_is_not : goes_where (narrow Refuse 2) 0 (full_third there) ≡ with_member 4 1
unfolding varint
a_full_member_is_not = refl

full_members_are_no_route : goes_where (narrow Refuse 2) 0 (full_both there) ≡ None
unfolding varint
full_members_are_no_route = refl

-- room is counted as the groups are served
abbrev one_member : Broker
one_member = runs (in_line 1 (hello (codes "m1")) ++ at 0 (Input 1 (wants 1 shared ExactlyOnce))
    ∷ at 0 (Input 1 (wants 2 other ExactlyOnce)) ∷ in_line 2 (hello (codes "p"))) blank

the_first_group_takes_the_room : tells_by (narrow Refuse 1) first (at 0 (Input 2 (sends 10))) one_member
    ≡ out ((2, pubrec 10 0x97) ∷ []) [] [] false
unfolding varint
the_first_group_takes_the_room = refl

-- ---- a group's copy has its subscription's identifier, and RETAIN as that one asks

abbrev retained_message : Packet
retained_message = Publish (record (message 10) { retain = true })

abbrev its_copy : Bool → Packet
its_copy retain = Publish (record {
  delivery = delivery.ExactlyOnce false 1;
  retain = retain;
  topic = topic;
  properties = identified 7
      ∷ [];
  payload = (message 10).payload;
})

abbrev as_published : Bool → List Event
as_published asked =
    in_line 1 (hello (codes "m1"))
    ++ at 0 (Input 1 (wants_with 1 (identified 7 ∷ []) (wish shared (record (options ExactlyOnce) { retain_as_published = asked }) ∷ [])))
    ∷ in_line 2 (hello (codes "p"))
    ++ at 0 (Input 2 retained_message) ∷ []

a_group_copy_has_its_identifier : asks (as_published false) (at 0 (Pump 1)) ≡ out ((1, its_copy false) ∷ []) [] [] false
unfolding varint
a_group_copy_has_its_identifier = refl

a_group_copy_passes_retain_on : asks (as_published true) (at 0 (Pump 1)) ≡ out ((1, its_copy true) ∷ []) [] [] false
unfolding varint
a_group_copy_passes_retain_on = refl

-- ---- turns: a member that subscribes anew keeps its place, one that gave up comes last; no copy goes to another member

abbrev pair : List Event
pair = in_line 1 (hello (codes "m1")) ++ at 0 (Input 1 (wants 1 shared ExactlyOnce)) ∷ in_line 2 (hello (codes "m2"))
    ++ at 0 (Input 2 (wants 1 shared ExactlyOnce)) ∷ in_line 3 (hello (codes "p"))

a_member_that_gave_up_comes_last : asks (pair ++ at 0 (Input 1 (gives_up 2 (shared ∷ [])))
    ∷ at 0 (Input 1 (wants 3 shared ExactlyOnce)) ∷ []) (at 0 (Input 3 (sends 10)))
    ≡ out ((3, pubrec 10 0) ∷ []) [] (Accepted 1 ∷ Entered (in_group 1 2) (codes "m2") ∷ []) false
unfolding varint
a_member_that_gave_up_comes_last = refl

-- ---- a Will that is refused takes no number: the next one has it, and a choice of its own by its sender

abbrev by_sender : MemberChoice
by_sender number sender = cond (bytes_eq sender (codes "w2")) (1 ∷ []) []

abbrev farewell : List ℕ → Will
farewell name = record { qos = ExactlyOnce; retain = false; properties = []; topic = name; payload = (message 10).payload }

-- m1 and m2 share a/b, and m1's queue is full; w1's Will is for m1 alone
abbrev both_die : List Event
both_die = in_line 1 (hello (codes "m1")) ++ at 0 (Input 1 (wants 1 shared ExactlyOnce)) ∷ at 0 (Input 1 (wants 2 (codes "x") ExactlyOnce))
    ∷ in_line 2 (hello (codes "m2")) ++ at 0 (Input 2 (wants 1 shared ExactlyOnce))
    ∷ in_line 3 (hello (codes "m3")) ++ at 0 (Input 3 (wants 1 shared ExactlyOnce))
    ∷ in_line 4 (hello_with (codes "w1") [] (Some (farewell (codes "x"))))
    ++ in_line 5 (hello_with (codes "w2") [] (Some (farewell topic)))

abbrev left_to : Broker → List (ℕ × List CopyId)
left_to b = map (λ s. (s.birth, map (λ e. e.copy.id) s.queue)) b.records.sessions

each_will_has_its_own_choice : left_to (opened (narrow Refuse 1) by_sender 0 (queued 1 (waiting 1 1) 1 (runs both_die blank)).records)
    ≡ (1, direct 1 1 ∷ []) ∷ (2, []) ∷ (3, in_group 2 3 ∷ []) ∷ []
unfolding varint
each_will_has_its_own_choice = refl

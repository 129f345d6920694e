-- Worked rows: who gets a copy of a publication to a/b, and what enters of it in a run (MQTT 5.0, 3.3.1.3, 3.3.4, 4.8.2).
use Rattle.std.proofs.Common.{◌≡◌, ℕ, Bool, true, false, List, [], ◌∷◌, ◌++◌, map, filter, Option, Some, None, refl}
use Rattle.std.specs.Prelude.{codes, count_by, is_some, nat_lt}
use Rattle.std.specs.Str.{is_utf8, chars}
use Rattle.std.proofs.Math.Utf8.{encode}
use Rattle.mqtt_base.specs.Values.{varint}
use Rattle.mqtt_base.specs.Reading.{groups_at, varint_at, blob_at, text_at}
use Rattle.mqtt_base.specs.Items.{items_in, items_at}
use Rattle.mqtt_base.specs.declared.session.Cause.TheVariants.{Direct, Share, Retained}
use Rattle.mqtt_base.specs.declared.session.CopyId.{CopyId}
use Rattle.mqtt_base.specs.declared.session.Qos.{Qos}
use Rattle.mqtt_base.specs.declared.session.Qos.TheVariants.{AtMostOnce, AtLeastOnce, ExactlyOnce}
use Rattle.mqtt_props.specs.Reading.{value_at, prop_at, block_at}
use Rattle.mqtt_props.specs.Laws.{layout_at}
use Rattle.mqtt_packet.specs.connect.Connect.{will_at, user_name_at, password_at, fields_at, connect_at}
use Rattle.mqtt_packet.specs.codec.Publish.{delivery_at, publish_at}
use Rattle.mqtt_packet.specs.codec.Frames.{frame_at, body_at, versioned_at, lawful_at, packet_at}
use Rattle.mqtt_packet.specs.stream.Front.{size_at, first_of}
use Rattle.mqtt_routes.specs.routing.Acceptance.{Served, Routed, routed}
use Rattle.mqtt_routes.specs.routing.Intended.{Publication, Answers, Copy, groups, members}
use Rattle.mqtt_routes.specs.routing.Subscriptions.{Subscriber}
use Rattle.mqtt_routes.specs.declared.routing.subscription.Subscription.{Subscription}
use Rattle.mqtt_rules.specs.step.Routing.{CopyTo, accepted_copies}
use Rattle.mqtt_rules.specs.step.State.{line_of}
use Rattle.mqtt_rules.proofs.step_lemmas.examples.Play.{usual, topic, hi, options, bytes}
use Rattle.mqtt_world_model.specs.model.Ends.{Draft}
use Rattle.mqtt_world_model.specs.model.World.{Event, publisher, receiver, publish, subscribe, ask, to_broker, restart, stranger, start}
use Rattle.mqtt_world_model.specs.model.Run.{Acceptance, acceptances_over}
use Rattle.mqtt_world_model.specs.model.Laws.{is_own}
use Rattle.mqtt_world_model.proofs.model_lemmas.examples.Scripts.{turns, p1, r1, draft, joins, subscribes, exchange}
use Rattle.mqtt_world_laws.specs.acceptance.Copies.{entered_from}
use Rattle.mqtt_world_laws.specs.routing.Groups.{gets_direct, has_member}
use Rattle.mqtt_world_laws.specs.routing.Intended.{is_groups}

-- ---- a routing: session 1 has two filters that match, 2 and 3 are members of a group, 4 of another, 5 wants something else

abbrev sub : List ℕ → ℕ → Qos → Subscription
sub text place qos = record { filter = text; place = place; options = options qos; identifier = None }

abbrev has : ℕ → List Subscription → Subscriber
has birth subs = record { birth = birth; subs = subs }

abbrev g : List ℕ
g = codes "$share/g/a/b"

abbrev h : List ℕ
h = codes "$share/h/+/b"

abbrev sessions : List Subscriber
sessions =
    has 1 (sub (codes "a/#") 1 AtLeastOnce ∷ sub topic 2 ExactlyOnce ∷ []) ∷ has 2 (sub g 3 ExactlyOnce ∷ []) ∷ has 3 (sub g 4 AtMostOnce ∷ [])
    ∷ has 4 (sub h 5 AtMostOnce ∷ []) ∷ has 5 (sub (codes "b") 6 ExactlyOnce ∷ sub (codes "$share/g/b") 7 ExactlyOnce ∷ []) ∷ []

abbrev to_topic : Publication
to_topic = record { sender = codes "p"; topic = topic; qos = 2; retain = false }

-- all queues have room; who is connected
abbrev at : (ℕ → Bool) → Answers
at is_connected = record { room = λ birth. 1; is_connected = is_connected; is_named = λ birth client. false }

abbrev births : Option Copy → List ℕ
births None = []
births (Some c) = c.birth ∷ []

-- the groups that were served, each with the birth that got its copy
abbrev served_to : Option Routed → List (List ℕ × List ℕ)
served_to None = []
served_to (Some r) = map (λ (s : Served). (s.group, births s.copy)) r.served

abbrev direct_to : Option Routed → List ℕ
direct_to None = []
direct_to (Some r) = map (λ c. c.birth) r.direct

one_direct_copy_for_two_filters : direct_to (routed (at (λ birth. true)) to_topic [] sessions) ≡ 1 ∷ []
one_direct_copy_for_two_filters = refl

-- each group is served by one member
pub each_group_gets_one : served_to (routed (at (λ birth. true)) to_topic [] sessions) ≡ (codes "g/a/b", 2 ∷ []) ∷ (codes "h/+/b", 4 ∷ []) ∷ []
each_group_gets_one = refl

-- a group without one who is connected by none at QoS 0
pub nobody_connected_gets_none : served_to (routed (at (λ birth. nat_lt birth 4)) to_topic (1 ∷ []) sessions) ≡ (codes "g/a/b", 3 ∷ []) ∷ (codes "h/+/b", []) ∷ []
nobody_connected_gets_none = refl

who_gets_direct : map (λ birth. gets_direct (at (λ n. true)) to_topic birth sessions) (1 ∷ 2 ∷ 5 ∷ 6 ∷ []) ≡ true ∷ false ∷ false ∷ false ∷ []
who_gets_direct = refl

which_groups_match : map (λ text. has_member to_topic text sessions) (g ∷ h ∷ codes "$share/g/b" ∷ topic ∷ []) ≡ true ∷ true ∷ false ∷ false ∷ []
which_groups_match = refl

the_groups_are_these : groups (members to_topic sessions) ≡ g ∷ h ∷ []
the_groups_are_these = refl

-- ---- a run: r1 and r2 are members of a group, r3 has a subscription of its own; p1 publishes

abbrev r2 : List ℕ
r2 = codes "r2"

abbrev r3 : List ℕ
r3 = codes "r3"

abbrev joins_group : List ℕ → Qos → List Event
joins_group r qos = joins r false ++ (subscribe r (record { filter = g; options = options qos; identifier = None }) ∷ exchange r)

abbrev says : Draft → List Event
says d = publisher p1 ∷ joins p1 false ++ (publish p1 d ∷ ask (to_broker p1) ∷ [])

abbrev grouped : Qos → List Event
grouped qos =
    receiver r1 10 0 ∷ receiver r2 10 0 ∷ receiver r3 10 0
    ∷ (joins_group r1 qos ++ (joins_group r2 qos ++ (joins r3 false ++ (subscribes r3 ++ says draft))))

abbrev directly : ℕ → CopyId
directly birth = record { publication = 1; birth = birth; cause = Direct }

abbrev for_group : ℕ → CopyId
for_group birth = record { publication = 1; birth = birth; cause = Share (codes "g/a/b") }

-- a direct copy, and one for the group
pub one_direct_and_one_for_the_group : entered_from usual (turns (grouped ExactlyOnce)) start ≡ directly 3 ∷ for_group 1 ∷ []
unfolding varint is_utf8 chars encode
one_direct_and_one_for_the_group = refl

-- which is one
pub one_entered_for_the_group : count_by (is_groups 1 (codes "g/a/b")) (entered_from usual (turns (grouped ExactlyOnce)) start) ≡ 1
unfolding varint is_utf8 chars encode
one_entered_for_the_group = refl

-- at QoS 0 the group's copy goes out and enters no queue
pub none_entered_for_the_group : entered_from usual (turns (grouped AtMostOnce)) start ≡ directly 3 ∷ []
unfolding varint is_utf8 chars encode
none_entered_for_the_group = refl

-- of one publication
pub it_was_accepted_once : map (λ (a : Acceptance). a.number) (acceptances_over usual (turns (grouped ExactlyOnce)) start) ≡ 1 ∷ []
unfolding varint is_utf8 chars encode
it_was_accepted_once = refl

-- ---- what a later SUBSCRIBE brings of a publication is no copy of its routing

abbrev kept : List Event
kept =
    receiver r1 10 0 ∷ receiver r2 10 0
    ∷ (joins r1 false ++ (subscribes r1 ++ (says (record draft { content = record { retain = true; topic = topic; payload = hi } }) ++ (joins r2 false ++ subscribes r2))))

-- and one that a later subscription brings
pub one_is_brought_later : entered_from usual (turns kept) start ≡ directly 1 ∷ record { publication = 1; birth = 3; cause = Retained 2 } ∷ []
unfolding varint is_utf8 chars encode
one_is_brought_later = refl

-- which the publication did not route
pub that_one_is_not_of_the_routing : filter (is_own 1) (entered_from usual (turns kept) start) ≡ directly 1 ∷ []
unfolding varint is_utf8 chars encode
that_one_is_not_of_the_routing = refl

-- ---- a stranger's Will goes to a group whose only member has QoS 0: the member stands on a line; but while the broker is opened
-- it is not connected, and gets none

abbrev s1 : List ℕ
s1 = codes "s1"

-- its CONNECT has a Will of QoS 1 to a/b
abbrev willed : List Event
willed =
    ask (stranger s1 (bytes "10 1e 00 04 4d 51 54 54 05 0e 00 00 05 11 ff ff ff ff 00 02 73 31 00 00 03 61 2f 62 00 02 68 69")) ∷ receiver r1 10 0
    ∷ joins_group r1 AtMostOnce

-- of each that was accepted: the sessions that got a copy, each with whether it stands on a line
abbrev with_lines : Acceptance → Option (List CopyTo) → List (ℕ × Bool)
with_lines a None = []
with_lines a (Some ds) = map (λ (d : CopyTo). (d.birth, is_some (line_of d.birth a.broker))) ds

abbrev lines_over : List Event → List (List (ℕ × Bool))
lines_over es = map (λ (a : Acceptance). with_lines a (accepted_copies a.env a.message a.broker)) (acceptances_over usual (turns es) start)

-- a member that is connected
pub its_member_stands_on_a_line : lines_over (willed ++ ask (stranger s1 (bytes "00 00")) ∷ []) ≡ ((2, true) ∷ []) ∷ []
unfolding varint first_of size_at packet_at frame_at versioned_at lawful_at body_at connect_at fields_at will_at user_name_at password_at publish_at delivery_at layout_at block_at items_at items_in text_at blob_at is_utf8 chars encode varint_at groups_at prop_at value_at
its_member_stands_on_a_line = refl

-- as the broker restarts it is not connected, and nobody gets one
pub nobody_gets_one_while_it_is_opened : lines_over (willed ++ restart ∷ []) ≡ [] ∷ []
unfolding varint first_of size_at packet_at frame_at versioned_at lawful_at body_at connect_at fields_at will_at user_name_at password_at publish_at delivery_at layout_at block_at items_at items_in text_at blob_at is_utf8 chars encode varint_at groups_at prop_at value_at
nobody_gets_one_while_it_is_opened = refl

-- r2 is a member too, born later, and of QoS 1
abbrev willed_two : List Event
willed_two = willed ++ receiver r2 10 0 ∷ joins_group r2 AtLeastOnce

-- it is eligible though no line stands, and so it gets the copy
pub who_needs_no_line_gets_it : entered_from usual (turns (willed_two ++ restart ∷ [])) start ≡ for_group 3 ∷ []
unfolding varint first_of size_at packet_at frame_at versioned_at lawful_at body_at connect_at fields_at will_at user_name_at password_at publish_at delivery_at layout_at block_at items_at items_in text_at blob_at is_utf8 chars encode varint_at groups_at prop_at value_at
who_needs_no_line_gets_it = refl

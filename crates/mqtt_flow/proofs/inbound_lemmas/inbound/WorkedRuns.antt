-- Worked runs of an inbound hop, computed (4.3.2, 4.3.3, 4.4, 4.9).
use Rattle.std.proofs.Common.{◌≡◌, ℕ, true, false, List, [], ◌∷◌, ◌++◌, refl}
use Rattle.mqtt_flow.specs.declared.inbound.inflow.Published.TheVariants.{New, Again, Over}
use Rattle.mqtt_flow.specs.declared.inbound.inflow.ReleaseAnswer.TheVariants.{Unknown}
use Rattle.mqtt_flow.specs.inbound.Identifiers.{ids_without}
use Rattle.mqtt_flow.specs.inbound.Inbound.{answer_to, open_after, answer_to_release}
use Rattle.mqtt_flow.specs.inbound.Line.{live}
use Rattle.mqtt_flow.specs.inbound.Publisher.{qos_1, qos_2, completed, refused, forgotten, Fate, ended_1, sent, ended, PUBLISH_2, PUBREC, DISCONNECT}
use Rattle.mqtt_flow.specs.inbound.InboundWorld.{World, Event, publish, to_broker, old_to_broker, to_end, give_up, break, connect, restart, takes, takes_unheard, refuses, step, start, after}

-- a PUBLISH and a PUBREL, by the open identifiers
pub first_is_new : answer_to 7 [] ≡ New
first_is_new = refl

-- and again while it is open
pub repeat_is_again : answer_to 7 (open_after 7 []) ≡ Again
repeat_is_again = refl

-- identifiers stay in order
pub in_its_place : open_after 7 (1 ∷ 300 ∷ []) ≡ 1 ∷ 7 ∷ 300 ∷ []
in_its_place = refl

-- a PUBREL closes its own
pub pubrel_closes : ids_without 7 (1 ∷ 7 ∷ 300 ∷ []) ≡ 1 ∷ 300 ∷ []
pubrel_closes = refl

-- a second one finds nothing
pub second_pubrel : answer_to_release 7 (1 ∷ 300 ∷ []) ≡ Unknown
second_pubrel = refl

abbrev twenty : List ℕ
twenty = 1 ∷ 2 ∷ 3 ∷ 4 ∷ 5 ∷ 6 ∷ 7 ∷ 8 ∷ 9 ∷ 10 ∷ 11 ∷ 12 ∷ 13 ∷ 14 ∷ 15 ∷ 16 ∷ 17 ∷ 18 ∷ 19 ∷ 20 ∷ []

-- an open one is again, also if the window is full
pub one_of_twenty : answer_to 20 twenty ≡ Again
one_of_twenty = refl

-- a further one is over the window
pub twenty_first : answer_to 21 twenty ≡ Over
twenty_first = refl

-- and opens nothing
pub over_opens_none : open_after 21 twenty ≡ twenty
over_opens_none = refl

-- the broker reads a packet, and the publisher its answer
abbrev exchange : List Event
exchange = to_broker takes ∷ to_end ∷ []

abbrev joined : List Event
joined = connect false ∷ exchange

abbrev fates_after : List Event → List Fate
fates_after events = (after events).fates

abbrev accepted_after : List Event → List ℕ
accepted_after events = (after events).accepted

-- PUBLISH, PUBREC, PUBREL, PUBCOMP; PUBLISH, PUBACK
pub handshake : fates_after (joined ++ publish qos_2 ∷ exchange ++ exchange) ≡ ended completed ∷ []
handshake = refl

-- PUBLISH, PUBACK
pub handshake_1 : fates_after (joined ++ publish qos_1 ∷ exchange) ≡ ended_1 completed ∷ []
handshake_1 = refl

-- a PUBREC may tell that no subscriber matches
pub unheard : fates_after (joined ++ publish qos_2 ∷ to_broker takes_unheard ∷ to_end ∷ exchange) ≡ ended completed ∷ []
unheard = refl

-- a message that is refused with 0x97 was not accepted, and its identifier is free for the next
abbrev one_refused : List Event
one_refused = joined ++ publish qos_2 ∷ to_broker refuses ∷ to_end ∷ publish qos_2 ∷ exchange ++ exchange

-- a refused message ends so, and the next is taken
pub refused_fates : fates_after one_refused ≡ ended refused ∷ ended completed ∷ []
refused_fates = refl

-- the next one alone was accepted
pub refused_accepts : accepted_after one_refused ≡ 1 ∷ []
refused_accepts = refl

-- two messages under way on a line that is given up: the broker reads the first there, then CONNECT, or CONNECT at once.
-- Either way both come again on the new line, and each is accepted once
abbrev given_up : List Event
given_up = joined ++ publish qos_2 ∷ publish qos_2 ∷ give_up ∷ connect false ∷ []

abbrev both_finish : List Event
both_finish = exchange ++ exchange ++ exchange ++ exchange ++ exchange

abbrev old_first : List Event
old_first = given_up ++ old_to_broker takes ∷ both_finish

abbrev connect_first : List Event
connect_first = given_up ++ to_broker takes ∷ old_to_broker takes ∷ to_end ∷ exchange ++ exchange ++ exchange ++ exchange

-- both messages are completed, if the old line is read first
pub old_first_fates : fates_after old_first ≡ ended completed ∷ ended completed ∷ []
old_first_fates = refl

-- and accepted once each
pub old_first_accepts : accepted_after old_first ≡ 0 ∷ 1 ∷ []
old_first_accepts = refl

-- also if the CONNECT is read first
pub connect_first_fates : fates_after connect_first ≡ ended completed ∷ ended completed ∷ []
connect_first_fates = refl

-- and accepted once each
pub connect_first_accepts : accepted_after connect_first ≡ 0 ∷ 1 ∷ []
connect_first_accepts = refl

-- the broker stops after it has accepted a message and before its PUBREC goes out
abbrev stopped : List Event
stopped = joined ++ publish qos_2 ∷ to_broker takes ∷ restart ∷ joined ++ exchange ++ exchange

-- a broker that stopped goes on with the handshake
pub stopped_fates : fates_after stopped ≡ ended completed ∷ []
stopped_fates = refl

-- and accepts the message once
pub stopped_accepts : accepted_after stopped ≡ 0 ∷ []
stopped_accepts = refl

-- or it stops before it has accepted it
pub stopped_before : accepted_after (joined ++ publish qos_2 ∷ restart ∷ joined ++ exchange ++ exchange) ≡ 0 ∷ []
stopped_before = refl

-- a QoS 1 message whose PUBACK is lost is accepted again (4.3.2)
pub twice_at_least_once : accepted_after (joined ++ publish qos_1 ∷ to_broker takes ∷ break ∷ joined ++ exchange) ≡ 0 ∷ 0 ∷ []
twice_at_least_once = refl

-- a Clean Start forgets a handshake, and is carried through when its line breaks
abbrev clean_start : List Event
clean_start = joined ++ publish qos_2 ∷ to_broker takes ∷ break ∷ connect true ∷ to_broker takes ∷ break ∷ connect false ∷ exchange ++ publish qos_2 ∷ exchange ++ exchange

-- a clean start forgets the message under way
pub clean_start_fates : fates_after clean_start ≡ ended forgotten ∷ ended completed ∷ []
clean_start_fates = refl

-- which had been accepted
pub clean_start_accepts : accepted_after clean_start ≡ 0 ∷ 1 ∷ []
clean_start_accepts = refl

-- a CONNECT that is read late, from a line that was given up, takes the session over: the new line is closed with 0x8E
abbrev late_connect : List Event
late_connect = connect false ∷ give_up ∷ joined ++ publish qos_2 ∷ to_broker takes ∷ old_to_broker takes ∷ []

-- the old line is told that it was taken over
pub taken_over : (after late_connect).down ≡ PUBREC 1 0x00 ∷ DISCONNECT 0x8e ∷ []
taken_over = refl

-- and the handshake goes on behind it
pub late_connect_fates : fates_after (late_connect ++ to_end ∷ to_end ∷ joined ++ exchange) ≡ ended completed ∷ []
late_connect_fates = refl

-- with one acceptance
pub late_connect_accepts : accepted_after (late_connect ++ to_end ∷ to_end ∷ joined ++ exchange) ≡ 0 ∷ []
late_connect_accepts = refl

-- a session that the broker refuses
pub no_session : (after (connect false ∷ to_broker refuses ∷ to_end ∷ publish qos_2 ∷ [])).unsent ≡ qos_2 ∷ []
no_session = refl

-- one above the Receive Maximum closes the line with 0x93 and is not accepted
abbrev full : World
full = record start { fates = sent 21 ∷ []; link = live; linked = true; up = PUBLISH_2 21 0 false ∷ []; stands = true; ids = twenty }

-- a PUBLISH over the window closes the line
pub over_closes : (step full (to_broker takes)).down ≡ DISCONNECT 0x93 ∷ []
over_closes = refl

-- and nothing is accepted
pub over_accepts_none : (step full (to_broker takes)).accepted ≡ []
over_accepts_none = refl

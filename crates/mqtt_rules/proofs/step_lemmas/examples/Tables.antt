-- Full tables and queues, and copies that are too large: room, and the oldest that make way (MQTT 5.0, 3.1.2.11.4, 4.9).
use Rattle.std.proofs.Common.{◌≡◌, ℕ, true, false, List, [], ◌∷◌, ◌++◌, length, None, refl}
use Rattle.std.specs.Prelude.{codes, replicate}
use Rattle.mqtt_base.specs.Values.{varint}
use Rattle.mqtt_base.specs.declared.session.Qos.TheVariants.{ExactlyOnce}
use Rattle.mqtt_base.specs.declared.session.Cause.TheVariants.{Retained}
use Rattle.mqtt_base.specs.declared.session.Ending.TheVariants.{TooLarge, Dropped}
use Rattle.mqtt_base.specs.declared.session.Phase.TheVariants.{Waiting, Sent}
use Rattle.mqtt_props.specs.declared.table.PropName.TheVariants.{MaximumPacketSize}
use Rattle.mqtt_props.specs.Properties.{U32}
use Rattle.mqtt_packet.specs.declared.codec.publish.Delivery.TheVariants as delivery
use Rattle.mqtt_packet.specs.declared.codec.packet.Packet.{Packet}
use Rattle.mqtt_packet.specs.declared.codec.packet.Packet.TheVariants.{Publish}
use Rattle.mqtt_flow.specs.declared.outbound.entry.Full.{Full}
use Rattle.mqtt_flow.specs.declared.outbound.entry.Full.TheVariants.{Refuse, Drop}
use Rattle.mqtt_rules.specs.declared.step.Report.{Report}
use Rattle.mqtt_rules.specs.declared.step.Report.TheVariants.{Accepted, Entered, Ended}
use Rattle.mqtt_records.specs.messages.PassedOn.{property}
use Rattle.mqtt_rules.specs.step.Packets.{pubrec, pubrel, pubcomp, suback}
use Rattle.mqtt_rules.specs.step.State.{Broker}
use Rattle.mqtt_rules.specs.step.Step.{NewLine, Input, Lost, Pump, Outcome}
use Rattle.mqtt_rules.proofs.step_lemmas.examples.Play.{usual, blank, Event, at, runs, tells, asks, runs_with, tells_with, step, out, hello, hello_with, never_expires, in_line, wants_with, wish, options, wants, topic, message, sends, direct, subscribed, Keeps, nothing_written, narrow, entry, waiting, queued, keeps}

-- ---- a queue that is full

-- so many copies wait for r1
abbrev stuffed : ℕ → Broker
stuffed count = queued 1 (waiting count 1) count (runs subscribed blank)

a_queue_takes_its_last_copy : tells (at 0 (Input 2 (sends 10))) (stuffed 999)
    ≡ out ((2, pubrec 10 0) ∷ []) [] (Accepted 1000 ∷ Entered (direct 1000 1) (codes "r1") ∷ []) false
unfolding varint
a_queue_takes_its_last_copy = refl

a_full_queue_refuses : tells (at 0 (Input 2 (sends 10))) (stuffed 1000) ≡ out ((2, pubrec 10 0x97) ∷ []) [] [] false
unfolding varint
a_full_queue_refuses = refl

a_full_queue_stays : Keeps usual (at 0 (Input 2 (sends 10))) (stuffed 1000)
unfolding varint
a_full_queue_stays = nothing_written usual (at 0 (Input 2 (sends 10))) (stuffed 1000) refl

-- ---- 16 PUBLISH a call (ours): a queue of forty takes three

sixteen_go_out : length (tells (at 0 (Pump 1)) (stuffed 40)).outputs ≡ 16
unfolding varint
sixteen_go_out = refl

and_more_are_there : (tells (at 0 (Pump 1)) (stuffed 40)).again ≡ true
unfolding varint
and_more_are_there = refl

abbrev third_call : Outcome
third_call = tells (at 0 (Pump 1)) (step (at 0 (Pump 1)) (step (at 0 (Pump 1)) (stuffed 40)))

the_third_call_sends_the_rest : length third_call.outputs ≡ 8
unfolding varint
the_third_call_sends_the_rest = refl

and_no_more_are_there : third_call.again ≡ false
unfolding varint
and_no_more_are_there = refl

-- ---- a full queue that drops its oldest (ours): queues of two

abbrev with_two : Full → List Event → Broker
with_two full es = runs_with (narrow full 2) (subscribed ++ at 0 (Input 2 (sends 1)) ∷ at 0 (Input 2 (sends 2)) ∷ es) blank

abbrev third_message : Event
third_message = at 0 (Input 2 (sends 3))

-- the third message enters, after those that are dropped
abbrev enters_after : List Report → Outcome
enters_after dropped = out ((2, pubrec 3 0) ∷ []) [] (Accepted 3 ∷ dropped ++ Entered (direct 3 1) (codes "r1") ∷ []) false

abbrev quota : Outcome
quota = out ((2, pubrec 3 0x97) ∷ []) [] [] false

abbrev drop : ℕ → Report
drop number = Ended (direct number 1) (codes "r1") Dropped

the_oldest_makes_way : tells_with (narrow Drop 2) third_message (with_two Drop []) ≡ enters_after (drop 1 ∷ [])
unfolding varint
the_oldest_makes_way = refl

or_the_third_is_refused : tells_with (narrow Refuse 2) third_message (with_two Refuse []) ≡ quota
unfolding varint
or_the_third_is_refused = refl

no_copy_that_was_sent_is_dropped : tells_with (narrow Drop 2) third_message (with_two Drop (at 0 (Pump 1) ∷ [])) ≡ quota
unfolding varint
no_copy_that_was_sent_is_dropped = refl

nor_is_one_refused_in_its_place : tells_with (narrow Refuse 2) third_message (with_two Refuse (at 0 (Pump 1) ∷ [])) ≡ quota
unfolding varint
nor_is_one_refused_in_its_place = refl

nothing_is_dropped_then : Keeps (narrow Drop 2) third_message (with_two Drop (at 0 (Pump 1) ∷ []))
unfolding varint
nothing_is_dropped_then = nothing_written (narrow Drop 2) third_message (with_two Drop (at 0 (Pump 1) ∷ [])) refl

nor_one_that_was_released : tells_with (narrow Drop 2) third_message
    (with_two Drop (at 0 (Pump 1) ∷ at 0 (Input 1 (pubrec 1 0)) ∷ at 0 (Input 1 (pubrec 2 0)) ∷ []))
    ≡ quota
unfolding varint
nor_one_that_was_released = refl

there_is_room_for_two : tells_with (narrow Drop 2) (at 0 (Input 2 (sends 3)))
    (runs_with (narrow Drop 2) (subscribed ++ at 0 (Input 2 (sends 1)) ∷ []) blank)
    ≡ out ((2, pubrec 3 0) ∷ []) [] (Accepted 2 ∷ Entered (direct 2 1) (codes "r1") ∷ []) false
unfolding varint
there_is_room_for_two = refl

-- the first copy was sent, the second waits
abbrev sent_and_waiting : Broker
sent_and_waiting = queued 1 (entry 1 (Sent 1) ∷ entry 2 Waiting ∷ []) 2 (runs subscribed blank)

the_oldest_that_waits_makes_way : tells_with (narrow Drop 2) third_message sent_and_waiting ≡ enters_after (drop 2 ∷ [])
unfolding varint
the_oldest_that_waits_makes_way = refl

-- a queue from times of larger limits
abbrev overfull : Broker
overfull = queued 1 (waiting 3 1) 3 (runs subscribed blank)

as_many_as_needed_make_way : tells_with (narrow Drop 2) (at 0 (Input 2 (sends 3))) overfull
    ≡ out ((2, pubrec 3 0) ∷ []) [] (Accepted 4 ∷ drop 1 ∷ drop 2 ∷ Entered (direct 4 1) (codes "r1") ∷ []) false
unfolding varint
as_many_as_needed_make_way = refl

an_overfull_queue_refuses : tells_with (narrow Refuse 2) (at 0 (Input 2 (sends 3))) overfull ≡ quota
unfolding varint
an_overfull_queue_refuses = refl

-- ---- one that this step made gives way to none: a SUBSCRIBE whose filters bring retained messages

abbrev kept_messages : List Event
kept_messages = at 0 (Input 2 (keeps (codes "a/1") 1)) ∷ at 0 (Input 2 (keeps (codes "b/1") 2)) ∷ []

abbrev brought : ℕ → ℕ → Report
brought number subscribe = Entered (record { publication = number; birth = 1; cause = Retained subscribe }) (codes "r1")

abbrev two_filters : Event
two_filters = at 0 (Input 1 (wants_with 2 [] (wish (codes "a/#") (options ExactlyOnce) ∷ wish (codes "b/#") (options ExactlyOnce) ∷ [])))

-- in a queue of one the dropped copy is the last, so that places begin anew at 1
abbrev one_waits : Broker
one_waits = runs_with (narrow Drop 1) (subscribed ++ at 0 (Input 2 (sends 9)) ∷ kept_messages) blank

a_new_copy_at_an_old_place_stays : tells_with (narrow Drop 1) two_filters one_waits
    ≡ out ((1, suback 2 (2 ∷ 0x97 ∷ [])) ∷ []) [] (drop 1 ∷ brought 2 2 ∷ []) false
unfolding varint
a_new_copy_at_an_old_place_stays = refl

-- the oldest was sent, and the new copy gets the place of the one that was dropped
abbrev one_was_sent : Broker
one_was_sent = queued 1 (entry 1 (Sent 1) ∷ entry 2 Waiting ∷ []) 3 (runs_with (narrow Drop 2) (subscribed ++ kept_messages) blank)

a_new_copy_beside_a_sent_one_stays : tells_with (narrow Drop 2) two_filters one_was_sent
    ≡ out ((1, suback 2 (2 ∷ 0x97 ∷ [])) ∷ []) [] (drop 2 ∷ brought 1 2 ∷ []) false
unfolding varint
a_new_copy_beside_a_sent_one_stays = refl

-- both enter if both that wait make way
abbrev both_wait : Broker
both_wait = queued 1 (waiting 2 1) 4 (runs_with (narrow Drop 2) (subscribed ++ kept_messages) blank)

each_filter_drops_one : tells_with (narrow Drop 2) two_filters both_wait
    ≡ out ((1, suback 2 (2 ∷ 2 ∷ [])) ∷ []) [] (drop 1 ∷ brought 1 2 ∷ drop 2 ∷ brought 2 3 ∷ []) false
unfolding varint
each_filter_drops_one = refl

-- ---- too large for the client (3.1.2.11.4): a copy that waits ends; one that was sent is released and ends at its PUBCOMP

abbrev big : Packet
big = Publish (record (message 10) { payload = replicate 60 33 })

abbrev limited : Packet
limited = hello_with (codes "r1") (never_expires ∷ property MaximumPacketSize (U32 64) ∷ []) None

abbrev big_queued : Packet → List Event
big_queued client = in_line 1 client ++ at 0 (Input 1 (wants 1 topic ExactlyOnce)) ∷ in_line 2 (hello (codes "p1"))
    ++ at 0 (Input 2 big) ∷ []

abbrev too_large : List Report
too_large = Ended (direct 1 1) (codes "r1") TooLarge ∷ []

a_large_copy_that_waits_ends : asks (big_queued limited) (at 0 (Pump 1)) ≡ out [] [] too_large false
unfolding varint
a_large_copy_that_waits_ends = refl

abbrev large_resumed : List Event
large_resumed = big_queued (hello (codes "r1")) ++ at 0 (Pump 1) ∷ at 0 (Lost 1) ∷ at 0 NewLine ∷ at 0 (Input 3 limited) ∷ []

a_large_copy_that_was_sent_is_released : asks large_resumed (at 0 (Pump 3)) ≡ out ((3, pubrel 1 0) ∷ []) [] [] false
unfolding varint
a_large_copy_that_was_sent_is_released = refl

and_ends_with_its_handshake : asks (large_resumed ++ at 0 (Pump 3) ∷ []) (at 0 (Input 3 (pubcomp 1 0x92))) ≡ out [] [] too_large false
unfolding varint
and_ends_with_its_handshake = refl

-- of QoS 1 it ends at once
abbrev big_once : Packet
big_once = Publish (record (message 10) { delivery = delivery.AtLeastOnce false 10; payload = replicate 60 33 })

abbrev once_resumed : List Event
once_resumed = in_line 1 (hello (codes "r1")) ++ at 0 (Input 1 (wants 1 topic ExactlyOnce)) ∷ in_line 2 (hello (codes "p1"))
    ++ at 0 (Input 2 big_once) ∷ at 0 (Pump 1) ∷ at 0 (Lost 1) ∷ at 0 NewLine ∷ at 0 (Input 3 limited) ∷ []

a_large_copy_of_service_1_ends : asks once_resumed (at 0 (Pump 3)) ≡ out [] [] too_large false
unfolding varint
a_large_copy_of_service_1_ends = refl

-- a packet of 64 bytes is taken: one fixed header of 2, a topic of 5, an identifier of 2, a block of 1
abbrev fitting : ℕ → List Event
fitting count = in_line 1 limited ++ at 0 (Input 1 (wants 1 topic ExactlyOnce)) ∷ in_line 2 (hello (codes "p1"))
    ++ at 0 (Input 2 (Publish (record (message 10) { payload = replicate count 33 }))) ∷ []

sixty_four_bytes_are_taken : asks (fitting 54) (at 0 (Pump 1))
    ≡ out ((1, Publish (record (message 1) { payload = replicate 54 33 })) ∷ []) [] [] false
unfolding varint
sixty_four_bytes_are_taken = refl

sixty_five_are_not : asks (fitting 55) (at 0 (Pump 1)) ≡ out [] [] too_large false
unfolding varint
sixty_five_are_not = refl

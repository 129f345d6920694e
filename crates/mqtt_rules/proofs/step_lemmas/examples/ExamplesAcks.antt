-- Worked answers of a receiver, and messages of QoS 1 (MQTT 5.0, 4.3.2, 4.3.3, 4.4).
use Rattle.std.proofs.Common.{◌≡◌, ℕ, Bool, true, false, List, [], ◌∷◌, ◌++◌, None, refl}
use Rattle.std.specs.Prelude.{codes}
use Rattle.mqtt_base.specs.Values.{varint}
use Rattle.mqtt_base.specs.declared.session.Qos.TheVariants.{AtMostOnce, AtLeastOnce, ExactlyOnce}
use Rattle.mqtt_base.specs.declared.session.Ending.TheVariants.{Taken, Refused}
use Rattle.mqtt_props.specs.declared.table.PropName.TheVariants.{ReceiveMaximum}
use Rattle.mqtt_props.specs.Properties.{U16}
use Rattle.mqtt_packet.specs.declared.codec.publish.Delivery.TheVariants as delivery
use Rattle.mqtt_packet.specs.declared.codec.packet.Packet.{Packet}
use Rattle.mqtt_rules.specs.declared.step.Report.TheVariants.{Accepted, Entered, Ended}
use Rattle.mqtt_records.specs.messages.PassedOn.{property}
use Rattle.mqtt_rules.specs.step.Packets.{puback, pubrec, pubrel, pubcomp, disconnect}
use Rattle.mqtt_rules.specs.step.Step.{NewLine, Input, Lost, Pump}
use Rattle.mqtt_rules.proofs.step_lemmas.examples.Play.{blank, Event, at, runs, asks, out, never_expires, hello_with, hello, welcome, in_line, wants, topic, hi, sends, copy_out, direct, subscribed, published, burst, all_outputs}
use Rattle.mqtt_rules.proofs.step_lemmas.examples.WorkedCopies.{publishes, subscribed_at}

-- ---- QoS 1

abbrev at_least_once : Bool → ℕ → Packet
at_least_once dup id = publishes (delivery.AtLeastOnce dup id) false [] hi

a_message_of_qos_1 : asks subscribed (at 0 (Input 2 (at_least_once false 10))) ≡ out ((2, puback 10 0) ∷ []) [] (Accepted 1 ∷ Entered (direct 1 1) (codes "r1") ∷ []) false
unfolding varint
a_message_of_qos_1 = refl

-- its identifier isn't open: the same again is a new message
a_message_of_qos_1_again : asks (subscribed ++ at 0 (Input 2 (at_least_once false 10)) ∷ []) (at 0 (Input 2 (at_least_once true 10)))
    ≡ out ((2, puback 10 0) ∷ []) [] (Accepted 2 ∷ Entered (direct 2 1) (codes "r1") ∷ []) false
unfolding varint
a_message_of_qos_1_again = refl

nobody_is_there_for_it : asks (in_line 1 (hello (codes "p1"))) (at 0 (Input 1 (at_least_once false 10))) ≡ out ((1, puback 10 0x10) ∷ []) [] (Accepted 1 ∷ []) false
unfolding varint
nobody_is_there_for_it = refl

-- a copy at the lesser of two
abbrev at_qos_1 : List Event
at_qos_1 = subscribed_at AtLeastOnce ++ at 0 (Input 2 (sends 10)) ∷ []

a_copy_at_the_lesser_one : asks at_qos_1 (at 0 (Pump 1)) ≡ out ((1, at_least_once false 1) ∷ []) [] [] false
unfolding varint
a_copy_at_the_lesser_one = refl

abbrev sent_at_qos_1 : List Event
sent_at_qos_1 = at_qos_1 ++ at 0 (Pump 1) ∷ []

a_puback_ends_it : asks sent_at_qos_1 (at 0 (Input 1 (puback 1 0))) ≡ out [] [] (Ended (direct 1 1) (codes "r1") Taken ∷ []) false
unfolding varint
a_puback_ends_it = refl

a_puback_refuses_it : asks sent_at_qos_1 (at 0 (Input 1 (puback 1 0x80))) ≡ out [] [] (Ended (direct 1 1) (codes "r1") Refused ∷ []) false
unfolding varint
a_puback_refuses_it = refl

a_pubrec_for_it_closes : asks sent_at_qos_1 (at 0 (Input 1 (pubrec 1 0))) ≡ out ((1, disconnect 0x82) ∷ []) (1 ∷ []) [] false
unfolding varint
a_pubrec_for_it_closes = refl

an_unknown_puback_is_passed_over : asks sent_at_qos_1 (at 0 (Input 1 (puback 9 0))) ≡ out [] [] [] false
unfolding varint
an_unknown_puback_is_passed_over = refl

it_is_sent_again : all_outputs (at 0 (Lost 1) ∷ at 0 NewLine ∷ at 0 (Input 3 (hello (codes "r1"))) ∷ at 0 (Pump 3) ∷ []) (runs sent_at_qos_1 blank)
    ≡ (3, welcome true) ∷ (3, at_least_once true 1) ∷ []
unfolding varint
it_is_sent_again = refl

-- QoS 0: at once, or not at all
at_once : asks (subscribed_at AtMostOnce) (at 0 (Input 2 (sends 10))) ≡ out ((1, publishes delivery.AtMostOnce false [] hi) ∷ (2, pubrec 10 0) ∷ []) [] (Accepted 1 ∷ []) false
unfolding varint
at_once = refl

or_not_at_all : all_outputs (at 0 (Input 2 (sends 10)) ∷ at 0 NewLine ∷ at 0 (Input 3 (hello (codes "r1"))) ∷ at 0 (Pump 3) ∷ []) (runs (subscribed_at AtMostOnce ++ at 0 (Lost 1) ∷ []) blank)
    ≡ (2, pubrec 10 0) ∷ (3, welcome true) ∷ []
unfolding varint
or_not_at_all = refl

-- ---- answers to a released copy, and to one that isn't

abbrev released : List Event
released = published ++ at 0 (Pump 1) ∷ at 0 (Input 1 (pubrec 1 0)) ∷ []

a_pubrec_is_answered : asks (published ++ at 0 (Pump 1) ∷ []) (at 0 (Input 1 (pubrec 1 0))) ≡ out ((1, pubrel 1 0) ∷ []) [] [] false
unfolding varint
a_pubrec_is_answered = refl

and_again : asks released (at 0 (Input 1 (pubrec 1 0))) ≡ out ((1, pubrel 1 0) ∷ []) [] [] false
unfolding varint
and_again = refl

a_pubcomp_of_any_code_ends_it : asks released (at 0 (Input 1 (pubcomp 1 0x92))) ≡ out [] [] (Ended (direct 1 1) (codes "r1") Taken ∷ []) false
unfolding varint
a_pubcomp_of_any_code_ends_it = refl

an_early_pubcomp_closes : asks (published ++ at 0 (Pump 1) ∷ []) (at 0 (Input 1 (pubcomp 1 0))) ≡ out ((1, disconnect 0x82) ∷ []) (1 ∷ []) [] false
unfolding varint
an_early_pubcomp_closes = refl

nothing_is_sent_twice_on_a_line : asks (published ++ at 0 (Pump 1) ∷ []) (at 0 (Pump 1)) ≡ out [] [] [] false
unfolding varint
nothing_is_sent_twice_on_a_line = refl

-- what is sent again takes its place in the window
abbrev sent_both : List Event
sent_both = subscribed ++ burst 2 2 1 ++ at 0 (Pump 1) ∷ at 0 (Lost 1) ∷ in_line 3 (hello_with (codes "r1") (never_expires ∷ property ReceiveMaximum (U16 1) ∷ []) None)

one_is_sent_again : asks sent_both (at 0 (Pump 3)) ≡ out ((3, copy_out true 1 []) ∷ []) [] [] false
unfolding varint
one_is_sent_again = refl

not_yet_the_other : asks (sent_both ++ at 0 (Pump 3) ∷ at 0 (Input 3 (pubrec 1 0)) ∷ []) (at 0 (Pump 3)) ≡ out [] [] [] false
unfolding varint
not_yet_the_other = refl

then_the_other : asks (sent_both ++ at 0 (Pump 3) ∷ at 0 (Input 3 (pubrec 1 0)) ∷ at 0 (Input 3 (pubcomp 1 0)) ∷ []) (at 0 (Pump 3)) ≡ out ((3, copy_out true 2 []) ∷ []) [] [] false
unfolding varint
then_the_other = refl

-- a copy that ended has left the window, though the next one has its place in the queue
abbrev one_at_a_time : List Event
one_at_a_time = in_line 1 (hello_with (codes "r1") (never_expires ∷ property ReceiveMaximum (U16 1) ∷ []) None) ++ at 0 (Input 1 (wants 1 topic ExactlyOnce)) ∷ in_line 2 (hello (codes "p1"))

one_after_the_other : all_outputs (at 0 (Input 2 (sends 1)) ∷ at 0 (Pump 1) ∷ at 0 (Input 1 (pubrec 1 0)) ∷ at 0 (Input 1 (pubcomp 1 0)) ∷ at 0 (Input 2 (sends 2)) ∷ at 0 (Pump 1) ∷ []) (runs one_at_a_time blank)
    ≡ (2, pubrec 1 0) ∷ (1, copy_out false 1 []) ∷ (1, pubrel 1 0) ∷ (2, pubrec 2 0) ∷ (1, copy_out false 1 []) ∷ []
unfolding varint
one_after_the_other = refl

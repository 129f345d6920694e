-- PUBRELs in their order, the window, identifiers after a restart, and a line taken over (MQTT 5.0, 3.1.4, 4.1, 4.4, 4.6, 4.9).
use Rattle.std.proofs.Common.{◌≡◌, ℕ, true, false, List, [], ◌∷◌, ◌++◌, map, None, refl}
use Rattle.std.specs.Prelude.{codes}
use Rattle.mqtt_base.specs.Values.{varint}
use Rattle.mqtt_base.specs.declared.session.Qos.TheVariants.{ExactlyOnce}
use Rattle.mqtt_base.specs.declared.session.Phase.{Phase}
use Rattle.mqtt_base.specs.declared.session.Phase.TheVariants.{Waiting, Sent, Released}
use Rattle.mqtt_props.specs.declared.table.PropName.TheVariants.{ReceiveMaximum}
use Rattle.mqtt_props.specs.Properties.{U16}
use Rattle.mqtt_packet.specs.declared.codec.packet.Packet.{Packet}
use Rattle.mqtt_records.specs.messages.PassedOn.{property}
use Rattle.mqtt_rules.specs.step.Packets.{pubrec, pubrel, pubcomp, suback}
use Rattle.mqtt_rules.specs.step.State.{Broker}
use Rattle.mqtt_rules.specs.step.Step.{NewLine, Input, Lost, Pump, Outcome}
use Rattle.mqtt_rules.proofs.step_lemmas.examples.Play.{blank, Event, at, asks, tells, runs, reopened, out, hello_with, hello, never_expires, welcome, in_line, wants, topic, sends, copy_out, subscribed, entry, queued}

-- what is told if only the answer goes out
abbrev says : ℕ → Packet → Outcome
says line packet = out ((line, packet) ∷ []) [] [] false

-- ---- PUBREL in the order of release (4.6)

abbrev released_in_turn : List Event
released_in_turn =
    subscribed
    ++ at 0 (Input 2 (sends 1)) ∷ at 0 (Input 2 (sends 2)) ∷ at 0 (Pump 1)
    ∷ at 0 (Input 1 (pubrec 2 0)) ∷ at 0 (Input 1 (pubrec 1 0))
    ∷ at 0 (Lost 1) ∷ at 0 NewLine ∷ []

releases_come_in_their_order : asks released_in_turn (at 0 (Input 3 (hello (codes "r1"))))
    ≡ out ((3, welcome true) ∷ (3, pubrel 2 0) ∷ (3, pubrel 1 0) ∷ []) [] [] false
unfolding varint
releases_come_in_their_order = refl

-- ---- the window: a resent PUBLISH fills it, and only that copy's end frees it (4.9, ours)

-- one was released and two wait, in a window of one
abbrev window_of_one : List ℕ → Packet
window_of_one name = hello_with name (never_expires ∷ property ReceiveMaximum (U16 1) ∷ []) None

abbrev one_released : Broker
one_released = queued 1 (entry 1 (Released 1 1) ∷ entry 2 Waiting ∷ entry 3 Waiting ∷ []) 3
    (runs (subscribed ++ at 0 (Lost 1) ∷ at 0 NewLine ∷ at 0 (Input 3 (window_of_one (codes "r1"))) ∷ []) blank)

one_fills_the_window : tells (at 0 (Pump 3)) one_released ≡ says 3 (copy_out false 2 [])
unfolding varint
one_fills_the_window = refl

abbrev ended_released : Broker
ended_released = runs (at 0 (Pump 3) ∷ at 0 (Input 3 (pubcomp 1 0)) ∷ []) one_released

the_end_of_an_older_copy_frees_nothing : tells (at 0 (Pump 3)) ended_released ≡ out [] [] [] false
unfolding varint
the_end_of_an_older_copy_frees_nothing = refl

its_own_end_does : tells (at 0 (Pump 3)) (runs (at 0 (Input 3 (pubrec 2 0)) ∷ at 0 (Input 3 (pubcomp 2 0)) ∷ []) ended_released)
    ≡ says 3 (copy_out false 1 [])
unfolding varint
its_own_end_does = refl

-- ---- after a restart the identifier of a copy that was sent is still its own (4.1, 4.4)

abbrev phases : Broker → List (List Phase)
phases b = map (λ s. map (λ e. e.phase) s.queue) b.records.sessions

abbrev two_sent : Broker
two_sent = runs (subscribed ++ at 0 (Input 2 (sends 1)) ∷ at 0 (Pump 1) ∷ at 0 (Input 2 (sends 2)) ∷ []) blank

the_identifier_is_stored : phases two_sent ≡ (Sent 1 ∷ Waiting ∷ []) ∷ [] ∷ []
unfolding varint
the_identifier_is_stored = refl

the_next_copy_gets_another : tells (at 0 (Pump 1)) (runs (in_line 1 (hello (codes "r1"))) (reopened 0 two_sent))
    ≡ out ((1, copy_out true 1 []) ∷ (1, copy_out false 2 []) ∷ []) [] [] false
unfolding varint
the_next_copy_gets_another = refl

-- ---- a line that was taken over isn't read any more (3.1.4)

abbrev taken_over : List Event
taken_over = in_line 1 (hello (codes "r1")) ++ at 0 NewLine ∷ at 0 (Input 2 (hello (codes "r1"))) ∷ []

the_rest_of_the_old_line_is_not_read : asks taken_over (at 0 (Input 1 (wants 1 topic ExactlyOnce))) ≡ out [] [] [] false
unfolding varint
the_rest_of_the_old_line_is_not_read = refl

the_new_line_is : asks taken_over (at 0 (Input 2 (wants 1 topic ExactlyOnce))) ≡ says 2 (suback 1 (2 ∷ []))
unfolding varint
the_new_line_is = refl

-- Moments count from when a publication was accepted, and none is above the last (MQTT 5.0, 3.1.2.11.2, 3.3.2.3.3).
use Rattle.std.proofs.Common.{◌≡◌, ℕ, ◌-◌, true, false, List, [], ◌∷◌, ◌++◌, map, Some, None, refl}
use Rattle.std.specs.Prelude.{codes}
use Rattle.mqtt_base.specs.Values.{varint}
use Rattle.mqtt_base.specs.declared.limits.TheConstants.{LAST_NUMBER}
use Rattle.mqtt_base.specs.declared.session.Qos.TheVariants.{ExactlyOnce}
use Rattle.mqtt_base.specs.declared.session.Ending.TheVariants.{Expired}
use Rattle.mqtt_props.specs.declared.table.PropName.TheVariants.{MessageExpiryInterval, SessionExpiryInterval}
use Rattle.mqtt_props.specs.Properties.{Prop, U32}
use Rattle.mqtt_packet.specs.declared.codec.packet.Packet.TheVariants.{Publish}
use Rattle.mqtt_rules.specs.declared.step.Report.TheVariants.{Ended}
use Rattle.mqtt_records.specs.messages.PassedOn.{property}
use Rattle.mqtt_rules.specs.step.State.{later}
use Rattle.mqtt_rules.specs.step.Closing.{end_due}
use Rattle.mqtt_rules.specs.step.Step.{NewLine, Input, Lost, Pump, Tick}
use Rattle.mqtt_rules.proofs.step_lemmas.examples.Play.{blank, Event, at, runs, asks, out, hello, hello_with, in_line, wants, topic, message, subscribed, direct, copy_out, births}

abbrev within : ℕ → List Prop
within seconds = property MessageExpiryInterval (U32 seconds) ∷ []

-- ---- a copy that entered at 7,000 ms, for an absent client

abbrev entered : List Event
entered = subscribed ++ at 0 (Lost 1) ∷ at 7000 (Input 2 (Publish (record (message 10) { properties = within 5 }))) ∷ []

it_stays_for_five_seconds : asks entered (at 11999 Tick) ≡ out [] [] [] false
unfolding varint
it_stays_for_five_seconds = refl

then_it_expires : asks entered (at 12000 Tick) ≡ out [] [] (Ended (direct 1 1) (codes "r1") Expired ∷ []) true
unfolding varint
then_it_expires = refl

a_second_is_left : asks (entered ++ at 11000 NewLine ∷ at 11000 (Input 3 (hello (codes "r1"))) ∷ []) (at 11000 (Pump 3))
    ≡ out ((3, copy_out false 1 (within 1)) ∷ []) [] [] false
unfolding varint
a_second_is_left = refl

-- ---- a message retained at 7,000 ms

abbrev retained_then : List Event
retained_then = in_line 1 (hello (codes "p1")) ++ at 7000 (Input 1 (Publish (record (message 10) { retain = true; properties = within 5 }))) ∷ []

abbrev is_kept : List Event → List ℕ
is_kept es = map (λ k. k.publication) (runs es blank).records.retained

it_is_kept_for_five_seconds : is_kept (retained_then ++ at 11999 Tick ∷ []) ≡ 1 ∷ []
unfolding varint
it_is_kept_for_five_seconds = refl

then_it_is_removed : is_kept (retained_then ++ at 12000 Tick ∷ []) ≡ []
unfolding varint
then_it_is_removed = refl

its_copy_has_a_second_left :
    asks (retained_then ++ at 11000 NewLine ∷ at 11000 (Input 2 (hello (codes "r1"))) ∷ at 11000 (Input 2 (wants 1 topic ExactlyOnce)) ∷ [])
    (at 11000 (Pump 2))
    ≡ out ((2, Publish (record (message 1) { retain = true; properties = within 1 })) ∷ []) [] [] false
unfolding varint
its_copy_has_a_second_left = refl

-- ---- no moment is above the last

a_sum_is_capped : map (λ wait. later (LAST_NUMBER - 2) wait) (1 ∷ 2 ∷ 3 ∷ 5000 ∷ []) ≡ (LAST_NUMBER - 1) ∷ LAST_NUMBER ∷ LAST_NUMBER ∷ LAST_NUMBER ∷ []
a_sum_is_capped = refl

an_end_is_due_by_the_last_moment : end_due (Some (LAST_NUMBER - 1)) 5 ≡ Some LAST_NUMBER
an_end_is_due_by_the_last_moment = refl

a_session_ends_at_the_last_moment : births (runs (in_line 1 (hello_with (codes "r1") (property SessionExpiryInterval (U32 5) ∷ []) None) ++ at LAST_NUMBER (Lost 1) ∷ []) blank) ≡ []
unfolding varint
a_session_ends_at_the_last_moment = refl

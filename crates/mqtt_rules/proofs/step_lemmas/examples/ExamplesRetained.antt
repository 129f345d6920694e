-- Worked retained messages: what SUBSCRIBE brings, and when (MQTT 5.0, 3.3.1.3, 3.8.3.1).
use Rattle.std.proofs.Common.{◌≡◌, ℕ, true, false, List, [], ◌∷◌, ◌++◌, refl}
use Rattle.std.specs.Prelude.{codes}
use Rattle.mqtt_base.specs.Values.{varint}
use Rattle.mqtt_base.specs.declared.session.Qos.TheVariants.{AtMostOnce, ExactlyOnce}
use Rattle.mqtt_base.specs.declared.session.Cause.TheVariants.{Retained as RetainedBy}
use Rattle.mqtt_base.specs.declared.session.CopyId.{CopyId}
use Rattle.mqtt_base.specs.declared.session.RetainHandling.{RetainHandling}
use Rattle.mqtt_base.specs.declared.session.RetainHandling.TheVariants.{SendAlways, SendIfNew, DoNotSend}
use Rattle.mqtt_props.specs.declared.table.PropName.TheVariants.{MessageExpiryInterval}
use Rattle.mqtt_props.specs.Properties.{Prop, U32}
use Rattle.mqtt_packet.specs.declared.codec.publish.Delivery.TheVariants as delivery
use Rattle.mqtt_packet.specs.declared.codec.packet.Packet.{Packet}
use Rattle.mqtt_packet.specs.declared.codec.packet.Packet.TheVariants.{Publish}
use Rattle.mqtt_rules.specs.declared.step.Report.TheVariants.{Entered}
use Rattle.mqtt_records.specs.messages.PassedOn.{property}
use Rattle.mqtt_rules.specs.step.Packets.{suback}
use Rattle.mqtt_rules.specs.step.Step.{Input, Pump, Tick, Outcome}
use Rattle.mqtt_rules.proofs.step_lemmas.examples.Play.{blank, Event, at, step, runs, asks, out, hello, in_line, wants_with, wish, options, wants, topic, hi, all_outputs}
use Rattle.mqtt_rules.proofs.step_lemmas.examples.Moments.{expires_in}
use Rattle.mqtt_rules.proofs.step_lemmas.examples.ExamplesKept.{kept}
use Rattle.mqtt_rules.proofs.step_lemmas.examples.WorkedCopies.{publishes, identified, with_options}

-- ---- retained messages

abbrev brought : ℕ → ℕ → CopyId
brought number subscribe = record { publication = number; birth = 2; cause = RetainedBy subscribe }

-- p1 retains a message of QoS 2, then r1 connects
abbrev retained_with : List Prop → List Event
retained_with ps = in_line 1 (hello (codes "p1")) ++ at 0 (Input 1 (publishes (delivery.ExactlyOnce false 10) true ps hi)) ∷ in_line 2 (hello (codes "r1"))

-- its copy enters the queue, with RETAIN, the SUBSCRIBE's identifier and what is left of its interval
abbrev wants_identified : Packet
wants_identified = wants_with 1 (identified 9 ∷ []) (wish topic (options ExactlyOnce) ∷ [])

a_retained_copy_enters : asks (retained_with []) (at 0 (Input 2 wants_identified)) ≡ out ((2, suback 1 (2 ∷ [])) ∷ []) [] (Entered (brought 1 1) (codes "r1") ∷ []) false
unfolding varint
a_retained_copy_enters = refl

it_goes_out_with_retain : asks (retained_with (expires_in 7) ++ at 3000 (Input 2 wants_identified) ∷ []) (at 5000 (Pump 2))
    ≡ out ((2, publishes (delivery.ExactlyOnce false 1) true (property MessageExpiryInterval (U32 2) ∷ identified 9 ∷ []) hi) ∷ []) [] [] false
unfolding varint
it_goes_out_with_retain = refl

-- one that expired isn't brought, whether a tick came or not
an_expired_one_is_not_brought : asks (retained_with (expires_in 7)) (at 7000 (Input 2 (wants 1 topic ExactlyOnce))) ≡ out ((2, suback 1 (2 ∷ [])) ∷ []) [] [] false
unfolding varint
an_expired_one_is_not_brought = refl

a_tick_removes_it : (step (at 7000 Tick) (runs (retained_with (expires_in 7)) blank)).records.retained ≡ []
unfolding varint
a_tick_removes_it = refl

a_tick_tells_of_none : asks (retained_with (expires_in 7)) (at 7000 Tick) ≡ out [] [] [] true
unfolding varint
a_tick_tells_of_none = refl

before_its_interval_no_tick : asks (retained_with (expires_in 7)) (at 6999 Tick) ≡ out [] [] [] false
unfolding varint
before_its_interval_no_tick = refl

-- Retain Handling: always, if the filter is new, never
abbrev handled : RetainHandling → List Event → Outcome
handled how es = asks (retained_with [] ++ es) (at 0 (Input 2 (with_options 5 (record (options ExactlyOnce) { retain_handling = how }))))

abbrev once_before : List Event
once_before = at 0 (Input 2 (wants 1 topic ExactlyOnce)) ∷ []

abbrev brings_it : ℕ → Outcome
brings_it subscribe = out ((2, suback 5 (2 ∷ [])) ∷ []) [] (Entered (brought 1 subscribe) (codes "r1") ∷ []) false

abbrev brings_none : Outcome
brings_none = out ((2, suback 5 (2 ∷ [])) ∷ []) [] [] false

always_anew : handled SendAlways once_before ≡ brings_it 2
unfolding varint
always_anew = refl

to_a_new_filter : handled SendIfNew [] ≡ brings_it 1
unfolding varint
to_a_new_filter = refl

not_to_an_old_one : handled SendIfNew once_before ≡ brings_none
unfolding varint
not_to_an_old_one = refl

never : handled DoNotSend [] ≡ brings_none
unfolding varint
never = refl

-- No Local bars one's own, and a shared filter brings none
ones_own_is_not_brought : asks (in_line 1 (hello (codes "p1")) ++ at 0 (Input 1 kept) ∷ []) (at 0 (Input 1 (with_options 1 (record (options ExactlyOnce) { no_local = true }))))
    ≡ out ((1, suback 1 (2 ∷ [])) ∷ []) [] [] false
unfolding varint
ones_own_is_not_brought = refl

a_shared_filter_brings_none : asks (retained_with []) (at 0 (Input 2 (wants 1 (codes "$share/g/a/b") ExactlyOnce))) ≡ out ((2, suback 1 (2 ∷ [])) ∷ []) [] [] false
unfolding varint
a_shared_filter_brings_none = refl

-- a further message takes the topic's place, in the order in which topics were first retained; an empty one removes it
abbrev retains : List ℕ → List ℕ → Packet
retains name payload = Publish (record { delivery = delivery.AtMostOnce; retain = true; topic = name; properties = []; payload = payload })

abbrev retaining : List Event → List (ℕ × Packet)
retaining es = all_outputs (at 0 (Input 2 (wants 1 (codes "a/#") AtMostOnce)) ∷ [])
    (runs (in_line 1 (hello (codes "p1")) ++ at 0 (Input 1 (retains topic (codes "1"))) ∷ at 0 (Input 1 (retains (codes "a/c") (codes "2"))) ∷ es ++ in_line 2 (hello (codes "r1"))) blank)

in_the_order_retained : retaining (at 0 (Input 1 (retains topic (codes "3"))) ∷ [])
    ≡ (2, suback 1 (0 ∷ [])) ∷ (2, retains topic (codes "3")) ∷ (2, retains (codes "a/c") (codes "2")) ∷ []
unfolding varint
in_the_order_retained = refl

an_empty_one_removes : retaining (at 0 (Input 1 (retains topic [])) ∷ []) ≡ (2, suback 1 (0 ∷ [])) ∷ (2, retains (codes "a/c") (codes "2")) ∷ []
unfolding varint
an_empty_one_removes = refl

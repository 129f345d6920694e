-- Worked calls: a copy goes out, the broker is stopped and opened, and the copy goes out once more, and is taken; and a client that keeps to
-- nothing (MQTT 5.0, 4.1, 4.3.3, 4.4, 4.9, 4.13).
use Rattle.std.proofs.Common.{◌≡◌, ℕ, true, false, List, [], ◌∷◌, map, Option, Some, None, refl, arith}
use Rattle.std.specs.Prelude.{filter_map}
use Rattle.std.specs.List.{AllByRecursion}
use Rattle.std.specs.Str.{is_utf8, chars}
use Rattle.std.proofs.Math.Utf8.{encode}
use Rattle.mqtt_base.specs.Values.{varint}
use Rattle.mqtt_base.specs.declared.session.Qos.TheVariants.{ExactlyOnce}
use Rattle.mqtt_packet.specs.declared.codec.packet.Packet.{Packet}
use Rattle.mqtt_packet.specs.declared.codec.packet.Packet.TheVariants.{Publish}
use Rattle.mqtt_rules.specs.step.Deeds.{Deed, Send}
use Rattle.mqtt_rules.specs.step.Laws.{AreWithin, Asked, Event, Reopened, blank}
use Rattle.mqtt_rules.specs.step.Packets.{pubcomp, pubrec}
use Rattle.mqtt_rules.specs.step.Step.{BadInput, Call, Input, Lost, NewLine, Pump}
use Rattle.mqtt_rules.proofs.step_lemmas.examples.Play.{copy_out, first, hello, open_at, sends, topic, usual, wants}
use Rattle.mqtt_world_model.specs.model.Laws.{standing}
use Rattle.mqtt_world_model.specs.model.Run.{Acceptance}
use Rattle.mqtt_world_model.proofs.model_lemmas.examples.Scripts.{first_copy, p1, r1}
use Rattle.mqtt_world_laws.specs.headline_in_forms.Reading.{Course, ended, entered}
use Rattle.mqtt_world_laws.specs.of_calls.Again.{RepeatsByPhase}
use Rattle.mqtt_world_laws.specs.of_calls.Calls.{SpendNone, course_of}
use Rattle.mqtt_world_laws.specs.of_calls.Delivery.{KeepsAll}
use Rattle.mqtt_world_laws.proofs.of_calls_lemmas.Keeping.{blank_in_order, keeps_from_nothing}
use Rattle.mqtt_world_laws.proofs.of_calls_lemmas.Repeating.{all_repeat}

usual_within : AreWithin usual
usual_within = record { queue = omega arith; sessions = omega arith; retained = omega arith }

abbrev asked : Call → Event
asked call = Asked usual first 0 call

-- the PUBLISH packets that go out, each with its line
abbrev publish_sent : Deed → Option (ℕ × Packet)
publish_sent (Send n (Publish p)) = Some (n, Publish p)
publish_sent d = None

-- ---- sent, stopped, sent again and taken

-- r1 subscribes and p1 publishes; the copy goes out; the broker is opened on what it stored; r1 comes again and takes the copy
abbrev taken_later : List Event
taken_later =
    asked NewLine ∷ asked (Input 1 (hello r1)) ∷ asked (Input 1 (wants 1 topic ExactlyOnce))
    ∷ asked NewLine ∷ asked (Input 2 (hello p1)) ∷ asked (Input 2 (sends 10)) ∷ asked (Pump 1)
    ∷ Reopened usual first 0
    ∷ asked NewLine ∷ asked (Input 1 (hello r1)) ∷ asked (Pump 1) ∷ asked (Input 1 (pubrec 1 0)) ∷ asked (Input 1 (pubcomp 1 0)) ∷ []

abbrev its_course : Course
its_course = course_of taken_later blank

-- one copy entered
pub its_copy_enters : entered its_course ≡ first_copy ∷ []
unfolding varint is_utf8 chars encode
its_copy_enters = refl

-- it went out before the stop, and with DUP after it
pub its_copy_goes_out : filter_map publish_sent its_course.deeds ≡ (1, copy_out false 1 []) ∷ (1, copy_out true 1 []) ∷ []
unfolding varint is_utf8 chars encode
its_copy_goes_out = refl

-- it has ended, and waits no more
pub its_copy_ends : ended its_course ≡ first_copy ∷ []
unfolding varint is_utf8 chars encode
its_copy_ends = refl

-- the copy has ended, and none waits
pub no_copy_waits : standing its_course.end ≡ []
unfolding varint is_utf8 chars encode
no_copy_waits = refl

-- no number is spent, so the law holds of it
pub it_spends_none : SpendNone taken_later blank
unfolding varint is_utf8 chars encode
it_spends_none =
    ((usual_within, refl), ((usual_within, refl), ((usual_within, refl), ((usual_within, refl), ((usual_within, refl), ((usual_within, refl), ((usual_within, refl), ((usual_within, refl), ((usual_within, refl), ((usual_within, refl), ((usual_within, refl), ((usual_within, refl), ((usual_within, refl), tt)))))))))))))

-- so the law holds of these calls
pub it_keeps_all : KeepsAll its_course
it_keeps_all = keeps_from_nothing taken_later it_spends_none

-- and each PUBLISH has its DUP
pub it_repeats_by_phase : AllByRecursion RepeatsByPhase its_course.steps
it_repeats_by_phase = all_repeat taken_later blank blank_in_order it_spends_none

-- ---- a client that keeps to nothing

-- It publishes with one identifier twice, answers what it was never sent, and sends bytes that are no packet; another takes its name over;
-- then its line is lost. Nobody has subscribed
abbrev unruly : List Event
unruly =
    asked NewLine ∷ asked (Input 1 (hello p1)) ∷ asked (Input 1 (sends 7)) ∷ asked (Input 1 (sends 7)) ∷ asked (Input 1 (pubcomp 3 0))
    ∷ asked NewLine ∷ asked (Input 2 (hello p1)) ∷ asked (BadInput 2 false 0x81) ∷ asked (Lost 2) ∷ []

abbrev number_of : Acceptance → ℕ
number_of a = a.number

-- one publication was accepted, and its identifier is open still
pub it_accepts_one : map number_of (course_of unruly blank).acceptances ≡ 1 ∷ []
unfolding varint is_utf8 chars encode
it_accepts_one = refl

-- one identifier is open in the session of the client that keeps to nothing
pub one_is_open : open_at 1 (course_of unruly blank).end ≡ 7 ∷ []
unfolding varint is_utf8 chars encode
one_is_open = refl

-- its calls spend no number
pub unruly_spends_none : SpendNone unruly blank
unfolding varint is_utf8 chars encode
unruly_spends_none =
    ((usual_within, refl), ((usual_within, refl), ((usual_within, refl), ((usual_within, refl), ((usual_within, refl), ((usual_within, refl), ((usual_within, refl), ((usual_within, refl), ((usual_within, refl), tt)))))))))

-- and the law holds of it
pub unruly_keeps_all : KeepsAll (course_of unruly blank)
unruly_keeps_all = keeps_from_nothing unruly unruly_spends_none

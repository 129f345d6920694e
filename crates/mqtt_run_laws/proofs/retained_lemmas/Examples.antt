-- Worked runs: the last message is retained and brought once, an empty one takes it away, and one that expires goes (MQTT 5.0, 3.3.1.3,
-- 3.3.2.3.3, 3.8.3.1).
use Rattle.std.proofs.Common.{◌≡◌, ℕ, true, List, [], ◌∷◌, ◌++◌, map, Option, Some, None, refl, arith}
use Rattle.std.specs.Prelude.{codes, flat_map, option_map}
use Rattle.std.specs.Str.{is_utf8, chars}
use Rattle.std.proofs.Math.Utf8.{encode}
use Rattle.mqtt_base.specs.Values.{varint}
use Rattle.mqtt_base.specs.declared.session.Qos.TheVariants.{AtMostOnce}
use Rattle.mqtt_base.specs.declared.session.RetainHandling.{RetainHandling}
use Rattle.mqtt_base.specs.declared.session.RetainHandling.TheVariants.{SendIfNew, DoNotSend}
use Rattle.mqtt_packet.specs.declared.codec.packet.Packet.{Packet}
use Rattle.mqtt_packet.specs.declared.codec.publish.Delivery.TheVariants as delivery
use Rattle.mqtt_props.specs.Properties.{Prop}
use Rattle.mqtt_records.specs.declared.state.session.Session.{Session}
use Rattle.mqtt_records.specs.declared.state.subscription.Subscription.{Subscription}
use Rattle.mqtt_rules.specs.step.Deeds.{At, Deed, Subscribe}
use Rattle.mqtt_rules.specs.step.Laws.{AreWithin, Asked, Event, Reopened, blank}
use Rattle.mqtt_rules.specs.step.State.{Broker, session_at}
use Rattle.mqtt_rules.specs.step.Step.{Call, Input, NewLine, Tick}
use Rattle.mqtt_rules.specs.step.Subscribe.{brought}
use Rattle.mqtt_rules.proofs.step_lemmas.examples.Moments.{expires_in}
use Rattle.mqtt_rules.proofs.step_lemmas.examples.Play.{first, hello, options, topic, usual, wants}
use Rattle.mqtt_rules.proofs.step_lemmas.examples.WorkedCopies.{publishes, with_options}
use Rattle.mqtt_world_model.specs.model.Run.{Acceptance}
use Rattle.mqtt_world_model.proofs.model_lemmas.examples.Scripts.{p1, r1}
use Rattle.mqtt_world_laws.specs.acceptance.Entries.{Moment, wish_in}
use Rattle.mqtt_world_laws.specs.headline_in_forms.Reading.{Course}
use Rattle.mqtt_world_laws.specs.of_calls.Calls.{SpendNone, course_of}
use Rattle.mqtt_run_laws.specs.retained.Retained.{RetainsTheLast, last_for, moments_over, retained_for}
use Rattle.mqtt_run_laws.proofs.retained_lemmas.Runs.{retains_from_nothing}

within : AreWithin usual
within = record { queue = omega arith; sessions = omega arith; retained = omega arith }

abbrev asked : ℕ → Call → Event
asked now call = Asked usual first now call

-- a message with RETAIN 1 for a/b
abbrev retains : List Prop → List ℕ → Packet
retains ps payload = publishes delivery.AtMostOnce true ps payload

-- p1 publishes two of them
abbrev published : List Prop → List Event
published ps = asked 0 NewLine ∷ asked 0 (Input 1 (hello p1)) ∷ asked 0 (Input 1 (retains [] (codes "1"))) ∷ asked 0 (Input 1 (retains ps (codes "2"))) ∷ []

-- r1 subscribes at a moment
abbrev subscribed : ℕ → Packet → List Event
subscribed now packet = asked now NewLine ∷ asked now (Input 2 (hello r1)) ∷ asked now (Input 2 packet) ∷ []

-- ---- what is read off such a run, by the numbers of the publications

abbrev the_course : List Event → Course
the_course es = course_of es blank

abbrev last_number : List Event → Option ℕ
last_number es = option_map (λ (a : Acceptance). a.number) (last_for topic (the_course es).acceptances)

abbrev retained_numbers : List Event → List ℕ
retained_numbers es = map (λ k. k.publication) (retained_for topic (the_course es).end.records)

abbrev brought_to : Broker → Subscription → Option Session → List ℕ
brought_to b x None = []
brought_to b x (Some s) = map (λ d. d.copy.id.publication) (brought b.now b.records.subscribes s (wish_in x) b.records.retained)

abbrev brought_by : Deed → Broker → List ℕ
brought_by (At who (Subscribe x)) b = brought_to b x (session_at who.birth b.records)
brought_by d b = []

abbrev brought_numbers : List Event → List ℕ
brought_numbers es = flat_map (λ (m : Moment). brought_by m.deed m.broker) (moments_over (the_course es))

-- ---- the last is retained, and brought once

abbrev both : List Event
both = published [] ++ subscribed 0 (wants 1 topic AtMostOnce)

-- the second publication is the last one to the topic
pub the_second_is_the_last : last_number both ≡ Some 2
unfolding varint is_utf8 chars encode
the_second_is_the_last = refl

-- it alone is retained
pub the_second_is_retained : retained_numbers both ≡ 2 ∷ []
unfolding varint is_utf8 chars encode
the_second_is_retained = refl

-- a new subscription brings it alone
pub the_second_is_brought : brought_numbers both ≡ 2 ∷ []
unfolding varint is_utf8 chars encode
the_second_is_brought = refl

-- also by a broker that was stopped and opened on what it stored
pub it_is_retained_over_a_stop : retained_numbers (published [] ++ Reopened usual first 0 ∷ []) ≡ 2 ∷ []
unfolding varint is_utf8 chars encode
it_is_retained_over_a_stop = refl

-- no number is spent, so the law holds of it
pub it_spends_none : SpendNone both blank
unfolding varint is_utf8 chars encode
it_spends_none = ((within, refl), ((within, refl), ((within, refl), ((within, refl), ((within, refl), ((within, refl), ((within, refl), tt)))))))

-- the law holds of this run
pub it_retains_the_last : RetainsTheLast (the_course both)
it_retains_the_last = retains_from_nothing both it_spends_none

-- ---- by Retain Handling

abbrev handled : RetainHandling → Packet
handled how = with_options 1 (record (options AtMostOnce) { retain_handling = how })

-- not where Retain Handling is 2
pub it_is_not_brought : brought_numbers (published [] ++ subscribed 0 (handled DoNotSend)) ≡ []
unfolding varint is_utf8 chars encode
it_is_not_brought = refl

pub it_is_brought_to_a_new_filter_alone
    : brought_numbers (published [] ++ subscribed 0 (handled SendIfNew) ++ asked 0 (Input 2 (handled SendIfNew)) ∷ []) ≡ 2 ∷ []
unfolding varint is_utf8 chars encode
it_is_brought_to_a_new_filter_alone = refl

-- ---- an empty message takes it away

abbrev emptied : List Event
emptied = published [] ++ asked 0 (Input 1 (retains [] [])) ∷ subscribed 0 (wants 1 topic AtMostOnce)

-- the empty publication is the last one
pub the_empty_one_is_the_last : last_number emptied ≡ Some 3
unfolding varint is_utf8 chars encode
the_empty_one_is_the_last = refl

-- behind it nothing is retained
pub nothing_is_retained : retained_numbers emptied ≡ []
unfolding varint is_utf8 chars encode
nothing_is_retained = refl

-- a new subscription brings nothing then
pub nothing_is_brought : brought_numbers emptied ≡ []
unfolding varint is_utf8 chars encode
nothing_is_brought = refl

-- ---- one that expires is not brought, and goes with the turn of the clock

-- a new subscription does not bring what has expired
pub what_has_expired_is_not_brought : brought_numbers (published (expires_in 7) ++ subscribed 7000 (wants 1 topic AtMostOnce)) ≡ []
unfolding varint is_utf8 chars encode
what_has_expired_is_not_brought = refl

-- a turn of the clock takes it away
pub what_has_expired_goes : retained_numbers (published (expires_in 7) ++ asked 7000 Tick ∷ []) ≡ []
unfolding varint is_utf8 chars encode
what_has_expired_goes = refl

-- before that it stays
pub what_has_not_expired_stays : retained_numbers (published (expires_in 7) ++ asked 6999 Tick ∷ []) ≡ 2 ∷ []
unfolding varint is_utf8 chars encode
what_has_not_expired_stays = refl

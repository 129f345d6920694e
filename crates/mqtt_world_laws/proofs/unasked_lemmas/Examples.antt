-- Worked steps and runs: to whom a PUBLISH goes out, and to whom none does (MQTT 5.0, 3.3.1.3, 3.3.4, 3.8.3.1, 4.8.2).
use Rattle.std.proofs.Common.{◌≡◌, ℕ, Bool, true, false, List, [], ◌∷◌, ◌++◌, arith, refl}
use Rattle.std.specs.Prelude.{codes, filter_map}
use Rattle.std.specs.Str.{is_utf8, chars}
use Rattle.std.proofs.Math.Utf8.{encode}
use Rattle.mqtt_base.specs.Values.{varint}
use Rattle.mqtt_base.specs.declared.session.Qos.TheVariants.{AtMostOnce}
use Rattle.mqtt_base.specs.declared.session.RetainHandling.{RetainHandling}
use Rattle.mqtt_base.specs.declared.session.RetainHandling.TheVariants.{SendAlways, SendIfNew, DoNotSend}
use Rattle.mqtt_packet.specs.declared.codec.packet.Packet.{Packet}
use Rattle.mqtt_packet.specs.declared.codec.publish.Delivery.TheVariants as delivery
use Rattle.mqtt_rules.specs.step.Laws.{AreWithin}
use Rattle.mqtt_rules.specs.step.Step.{Input, deeds, publish_out}
use Rattle.mqtt_rules.proofs.step_lemmas.examples.Play.{Event, at, blank, first, hello, hi, in_line, options, runs, usual, wants}
use Rattle.mqtt_rules.proofs.step_lemmas.examples.WorkedCopies.{publishes, subscribed_at, with_options}
use Rattle.mqtt_world_model.specs.model.Run.{deeds_over}
use Rattle.mqtt_world_model.specs.model.World.{Event as WorldEvent, start}
use Rattle.mqtt_world_model.proofs.model_lemmas.examples.Scripts.{published, pumped, turns}
use Rattle.mqtt_world_laws.specs.unasked.Runs.{NobodyIsSentUnasked}
use Rattle.mqtt_world_laws.proofs.unasked_lemmas.Runs.{nothing_asked}

-- ---- steps

-- the lines on which the last of these events sends a PUBLISH
abbrev sent_to : List Event → Event → List ℕ
sent_to es (at now call) = filter_map publish_out (deeds usual first now call (runs es blank))

abbrev light : Bool → Packet
light retain = publishes delivery.AtMostOnce retain [] hi

-- who subscribed to it is sent it
pub a_subscriber_is_sent_it : sent_to (subscribed_at AtMostOnce) (at 0 (Input 2 (light false))) ≡ 1 ∷ []
unfolding varint
a_subscriber_is_sent_it = refl

-- who subscribed to something else isn't
pub who_asked_for_another_is_not : sent_to (in_line 1 (hello (codes "r1")) ++ at 0 (Input 1 (wants 1 (codes "a/c") AtMostOnce)) ∷ in_line 2 (hello (codes "p1"))) (at 0 (Input 2 (light false))) ≡ []
unfolding varint
who_asked_for_another_is_not = refl

abbrev to_itself : Bool → List ℕ
to_itself no_local = sent_to (in_line 1 (hello (codes "p1")) ++ at 0 (Input 1 (with_options 1 (record (options AtMostOnce) { no_local = no_local }))) ∷ []) (at 0 (Input 1 (light false)))

-- a client is sent its own message
pub an_echo_is_sent : to_itself false ≡ 1 ∷ []
unfolding varint
an_echo_is_sent = refl

-- and not if it asked for No Local
pub no_local_has_no_echo : to_itself true ≡ []
unfolding varint
no_local_has_no_echo = refl

-- of two members of a group one is sent it
pub one_member_is_sent_it
    : sent_to (in_line 1 (hello (codes "r1")) ++ at 0 (Input 1 (wants 1 (codes "$share/g/a/b") AtMostOnce)) ∷ in_line 2 (hello (codes "r2")) ++ at 0 (Input 2 (wants 1 (codes "$share/g/a/b") AtMostOnce)) ∷ in_line 3 (hello (codes "p1"))) (at 0 (Input 3 (light false)))
    ≡ 1 ∷ []
unfolding varint
one_member_is_sent_it = refl

-- who is sent what a SUBSCRIBE brings of retained messages, by its Retain Handling
abbrev brought : RetainHandling → List ℕ
brought how = sent_to (in_line 1 (hello (codes "p1")) ++ at 0 (Input 1 (light true)) ∷ in_line 2 (hello (codes "r1"))) (at 0 (Input 2 (with_options 5 (record (options AtMostOnce) { retain_handling = how }))))

-- always
pub it_is_brought : brought SendAlways ≡ 2 ∷ []
unfolding varint
it_is_brought = refl

-- to a new filter
pub it_is_brought_to_a_new_filter : brought SendIfNew ≡ 2 ∷ []
unfolding varint
it_is_brought_to_a_new_filter = refl

-- or not
pub it_is_not_brought : brought DoNotSend ≡ []
unfolding varint
it_is_not_brought = refl

-- ---- a run

abbrev sent_over : List WorldEvent → List ℕ
sent_over es = filter_map publish_out (deeds_over usual (turns es) start)

-- r1 has subscribed, and the message of p1 is under way: nobody is sent anything
pub nobody_is_sent_it_yet : sent_over published ≡ []
unfolding varint is_utf8 chars encode
nobody_is_sent_it_yet = refl

-- it is read, its copy waits, and r1 is sent it
pub r1_is_sent_it : sent_over pumped ≡ 1 ∷ []
unfolding varint is_utf8 chars encode
r1_is_sent_it = refl

within : AreWithin usual
within = record { queue = omega arith; sessions = omega arith; retained = omega arith }

-- so the law says of that PUBLISH that r1 asked for it
pub it_was_asked_for : NobodyIsSentUnasked [] usual (turns pumped) start
unfolding varint is_utf8 chars encode
it_was_asked_for = nothing_asked usual (turns pumped) (record { within = within; unspent = refl })

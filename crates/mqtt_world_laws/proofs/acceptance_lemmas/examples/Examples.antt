-- Worked runs: the premises of the laws hold of them, and fail if a Clean Start is not carried through; a broker that
-- has all its lines gives none; a group's copy ends with its member (MQTT 5.0, 3.1.2.4, 4.3.3, 4.4, 4.8.2).
use Rattle.std.proofs.Common.{◌≡◌, ℕ, zero, suc, Bool, true, false, not, ◌&&◌, List, [], ◌∷◌, ◌++◌, map, Option, Some, None, refl}
use Rattle.std.specs.Prelude.{codes, option_map}
use Rattle.std.specs.Str.{is_utf8, chars}
use Rattle.std.proofs.Math.Utf8.{encode}
use Rattle.mqtt_base.specs.Values.{varint}
use Rattle.mqtt_base.specs.declared.session.Qos.TheVariants.{ExactlyOnce}
use Rattle.mqtt_base.specs.declared.session.CopyId.{CopyId}
use Rattle.mqtt_flow.specs.inbound.Publisher.{completed, ended}
use Rattle.mqtt_rules.proofs.step_lemmas.examples.Play.{usual, topic, options}
use Rattle.mqtt_world_model.specs.model.Ends.{Publisher, Wish}
use Rattle.mqtt_world_model.specs.model.World.{Event, publisher, receiver, connect_end, give_up, publish, subscribe, ask, break, restart, stop_before, stop_after, to_broker, old_to_broker, stranger, publisher_named, start}
use Rattle.mqtt_world_model.specs.model.Laws.{fate_of, standing}
use Rattle.mqtt_world_model.specs.model.Run.{run, are_beginnings_clean}
use Rattle.mqtt_world_model.proofs.model_lemmas.examples.Scripts.{turns, p1, r1, draft, joins, exchange}
use Rattle.mqtt_world_laws.specs.acceptance.Spending.{run_spends}
use Rattle.mqtt_world_laws.specs.acceptance.Once.{times_accepted}
use Rattle.mqtt_world_laws.specs.acceptance.Copies.{entered_from, ended_from}

abbrev is_fair : List Event → Bool
is_fair es = not (run_spends usual (turns es) start) && are_beginnings_clean usual (turns es) start

abbrev times : List Event → ℕ
times es = times_accepted p1 0 usual (turns es) start

abbrev asked : List Event
asked = publisher p1 ∷ joins p1 false ++ (publish p1 draft ∷ [])

abbrev resent : List Event
resent = joins p1 false ++ (exchange p1 ++ exchange p1)

-- ---- a stop before the commit, one after it, and a restart: fair, accepted once, and completed

abbrev before_it : List Event
before_it = asked ++ stop_before (to_broker p1) ∷ resent

abbrev after_it : List Event
after_it = asked ++ stop_after (to_broker p1) ∷ resent

abbrev restarted : List Event
restarted = asked ++ ask (to_broker p1) ∷ restart ∷ resent

-- a stop before the commit is fair
pub a_stop_before_is_fair : is_fair before_it ≡ true
unfolding varint is_utf8 chars encode
a_stop_before_is_fair = refl

-- the message is accepted once
pub a_stop_before_is_once : times before_it ≡ 1
unfolding varint is_utf8 chars encode
a_stop_before_is_once = refl

-- and completes
pub a_stop_before_completes : fate_of p1 0 (run usual (turns before_it) start) ≡ Some (ended completed)
unfolding varint is_utf8 chars encode
a_stop_before_completes = refl

-- so is a stop behind it
pub a_stop_after_is_fair : is_fair after_it ≡ true
unfolding varint is_utf8 chars encode
a_stop_after_is_fair = refl

-- the message is accepted once
pub a_stop_after_is_once : times after_it ≡ 1
unfolding varint is_utf8 chars encode
a_stop_after_is_once = refl

-- and a restart
pub a_restart_is_fair : is_fair restarted ≡ true
unfolding varint is_utf8 chars encode
a_restart_is_fair = refl

-- ---- a late CONNECT on a line that was given up is fair; a Clean Start whose line is given up isn't

-- and a CONNECT that comes late
pub a_late_connect_is_fair : is_fair (publisher p1 ∷ connect_end p1 false ∷ give_up p1 ∷ connect_end p1 false ∷ ask (to_broker p1) ∷ ask (old_to_broker p1) ∷ []) ≡ true
unfolding varint is_utf8 chars encode
a_late_connect_is_fair = refl

-- and a Clean Start on a line that begins
pub a_clean_start_is_fair : is_fair (asked ++ ask (break p1) ∷ joins p1 true) ≡ true
unfolding varint is_utf8 chars encode
a_clean_start_is_fair = refl

-- but not one that is given up
pub a_clean_start_given_up_is_not : is_fair (publisher p1 ∷ connect_end p1 true ∷ give_up p1 ∷ []) ≡ false
unfolding is_utf8 chars encode
a_clean_start_given_up_is_not = refl

-- ---- a broker with 64 lines gives no further one, and the end goes on without

abbrev strangers : ℕ → List Event
strangers zero = []
strangers (suc n) = ask (stranger (suc n ∷ []) []) ∷ strangers n

abbrev line_after : List Event → Option (Option ℕ)
line_after es = option_map (λ (p : Publisher). p.line.number) (publisher_named p1 (run usual (turns es) start))

-- a broker with 64 lines gives none
pub a_full_broker_gives_no_line : line_after (strangers 64 ++ publisher p1 ∷ connect_end p1 false ∷ []) ≡ Some None
unfolding varint is_utf8 chars encode
a_full_broker_gives_no_line = refl

-- one with 63 gives the last
pub a_last_line_is_given : line_after (strangers 63 ++ publisher p1 ∷ connect_end p1 false ∷ []) ≡ Some (Some 64)
unfolding varint is_utf8 chars encode
a_last_line_is_given = refl

-- ---- a group whose member is lost: its copy ends with its session, and goes to no other (4.8.2)

abbrev r2 : List ℕ
r2 = codes "r2"

abbrev wish : Wish
wish = record { filter = codes "$share/g/" ++ topic; options = options ExactlyOnce; identifier = None }

abbrev enters : List ℕ → List Event
enters r = joins r false ++ (subscribe r wish ∷ exchange r)

abbrev grouped : List Event
grouped = receiver r1 10 0 ∷ receiver r2 10 0 ∷ (enters r1 ++ (enters r2 ++ (asked ++ ask (to_broker p1) ∷ [])))

abbrev lost : List Event
lost = grouped ++ ask (break r1) ∷ connect_end r1 true ∷ ask (to_broker r1) ∷ []

abbrev births : List CopyId → List ℕ
births xs = map (λ (c : CopyId). c.birth) xs

-- one member of a group gets the copy
pub a_group_has_one_copy : births (entered_from usual (turns lost) start) ≡ 1 ∷ []
unfolding varint is_utf8 chars encode
a_group_has_one_copy = refl

-- where it waits
pub it_waits_for_its_member : births (standing (run usual (turns grouped) start).broker) ≡ 1 ∷ []
unfolding varint is_utf8 chars encode
it_waits_for_its_member = refl

-- and ends with the member's session
pub it_ends_with_its_member : births (ended_from usual (turns lost) start) ≡ 1 ∷ []
unfolding varint is_utf8 chars encode
it_ends_with_its_member = refl

-- nobody else has it
pub it_waits_for_no_other : births (standing (run usual (turns lost) start).broker) ≡ []
unfolding varint is_utf8 chars encode
it_waits_for_no_other = refl

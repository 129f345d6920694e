-- A worked run: the broker is opened under a smaller limit than its sessions were stored under; a publisher is refused until
-- they have expired, and then has its place, with Clean Start too (MQTT 5.0, 3.1.2.4, 3.1.2.11.2, 3.2.2.2).
use Rattle.std.proofs.Common.{◌≡◌, ℕ, true, List, [], ◌∷◌, ◌++◌, refl, arith}
use Rattle.std.specs.Prelude.{codes}
use Rattle.std.specs.Str.{is_utf8, chars}
use Rattle.std.proofs.Math.Utf8.{encode}
use Rattle.mqtt_base.specs.Values.{varint}
use Rattle.mqtt_records.specs.state.Records.{nothing}
use Rattle.mqtt_records.specs.declared.state.records.Records.{Records}
use Rattle.mqtt_records.specs.declared.state.session.Session.{Session}
use Rattle.mqtt_rules.specs.declared.step.Capacity.{Capacity}
use Rattle.mqtt_rules.proofs.step_lemmas.examples.Play.{away, first, usual}
use Rattle.mqtt_world_model.specs.model.World.{Event, World, ask, clock, give_up, publish, publisher, tick}
use Rattle.mqtt_world_model.specs.model.Run.{run}
use Rattle.mqtt_world_model.proofs.model_lemmas.examples.Scripts.{Sum, draft, exchange, joins, p1, sum_of, turns}
use Rattle.mqtt_world_laws.specs.acceptance.Fair.{IsFair, opened_world}

-- one session may stand
abbrev small : Capacity
small = record usual { sessions = 1 }

-- two do, whose lines are gone, and which expire five seconds after
abbrev guest : ℕ → List ℕ → Session
guest birth client = record (away birth client) { expiry = 5 }

abbrev stored_before : Records
stored_before = record nothing { births = 2; sessions = guest 1 (codes "s1") ∷ guest 2 (codes "s2") ∷ [] }

abbrev crowded : World
crowded = opened_world small first 0 stored_before

abbrev after_opening : List Event → Sum
after_opening es = sum_of (run small (turns es) crowded)

-- it is refused, and its message does not go out
abbrev comes : List Event
comes = publisher p1 ∷ publish p1 draft ∷ joins p1 true

-- with two sessions where one may be, none begins
pub two_stand_and_none_begins : after_opening comes
    ≡ record { handed = []; queue = 0; messages = 1; done = 0; publications = 0; sessions = 2 }
unfolding varint is_utf8 chars encode
two_stand_and_none_begins = refl

-- once both have expired, each at a tick, it has a place, and its message goes out
abbrev comes_later : List Event
comes_later = comes ++ clock 6000 ∷ ask tick ∷ ask tick ∷ joins p1 true ++ (exchange p1 ++ exchange p1)

-- one whose session stands goes on
pub its_session_begins : after_opening comes_later
    ≡ record { handed = []; queue = 0; messages = 1; done = 1; publications = 1; sessions = 1 }
unfolding varint is_utf8 chars encode
its_session_begins = refl

-- and so another may begin instead of it
abbrev comes_anew : List Event
comes_anew = comes_later ++ give_up p1 ∷ joins p1 true

-- and another may begin in its place
pub another_begins_instead : after_opening comes_anew
    ≡ record { handed = []; queue = 0; messages = 1; done = 1; publications = 1; sessions = 1 }
unfolding varint is_utf8 chars encode
another_begins_instead = refl

-- that run is fair
pub its_run_is_fair : IsFair small (turns comes_anew) crowded
unfolding varint is_utf8 chars encode
its_run_is_fair = record { within = record { queue = omega arith; sessions = omega arith; retained = omega arith }; unspent = refl; clean = refl }

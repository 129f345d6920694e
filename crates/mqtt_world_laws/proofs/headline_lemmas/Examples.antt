-- Worked lives and runs: one begins on what another left, with a session and a copy in its queue; a message of QoS 1 is accepted
-- twice, and a copy of QoS 1 read twice, if an answer is lost (MQTT 5.0, 4.1, 4.3.2, 4.4).
use Rattle.std.proofs.Common.{◌≡◌, ℕ, false, List, [], ◌∷◌, ◌++◌, map, Some, refl, arith}
use Rattle.std.specs.Prelude.{codes, option_map}
use Rattle.std.specs.Str.{is_utf8, chars}
use Rattle.std.proofs.Math.Utf8.{encode}
use Rattle.mqtt_base.specs.Values.{varint}
use Rattle.mqtt_base.specs.declared.session.Qos.TheVariants.{AtLeastOnce}
use Rattle.mqtt_flow.specs.inbound.Publisher.{completed, ended_1}
use Rattle.mqtt_rules.specs.declared.step.Capacity.{Capacity}
use Rattle.mqtt_rules.specs.step.Laws.{AreWithin}
use Rattle.mqtt_rules.proofs.step_lemmas.examples.Play.{first, usual}
use Rattle.mqtt_world_model.specs.model.Ends.{Draft, Receiver}
use Rattle.mqtt_world_model.specs.model.Laws.{fate_of, read_count}
use Rattle.mqtt_world_model.specs.model.Run.{after, run}
use Rattle.mqtt_world_model.specs.model.Tellings.{handed_by}
use Rattle.mqtt_world_model.specs.model.World.{Event, World, ask, break, publish, publisher, pump, receiver, receiver_named, start, to_broker, to_end}
use Rattle.mqtt_world_model.proofs.model_lemmas.examples.Scripts.{draft, exchange, first_copy, joins, p1, r1, round, subscribes, turns}
use Rattle.mqtt_world_laws.specs.acceptance.Copies.{ended_from}
use Rattle.mqtt_world_laws.specs.acceptance.Fair.{IsFair}
use Rattle.mqtt_world_laws.specs.acceptance.Once.{times_accepted}
use Rattle.mqtt_world_laws.specs.receiver.Drains.{Doing, drains, happens}
use Rattle.mqtt_world_laws.specs.drains.Emptied.{waiting_for}
use Rattle.mqtt_world_laws.proofs.drains_lemmas.Examples.{dropping}
use Rattle.mqtt_world_laws.specs.drain_causes.Fitting.{AllDrainsFit}
use Rattle.mqtt_world_laws.specs.headline.Delivery.{DeliversExactlyOnce, DoingsDeliver}
use Rattle.mqtt_world_laws.specs.headline.Lives.{BrokerLife, IsFairLife, IsFairScript, after_lives}
use Rattle.mqtt_world_laws.proofs.headline_lemmas.Delivered.{lives_deliver, lives_fit, run_delivers_all}
use Rattle.mqtt_world_laws.proofs.headline_lemmas.Lives.{start_begins}

-- the usual limits are within the tables
pub usual_within : AreWithin usual
usual_within = record { queue = omega arith; sessions = omega arith; retained = omega arith }

-- ---- a first life: a copy of QoS 2 waits for r1, and the broker is opened again

abbrev pub first_life : BrokerLife
first_life = record {
  limits = usual;
  doings = map happens (turns (receiver r1 10 0 ∷ publisher p1 ∷ joins r1 false ++ (subscribes r1 ++ (joins p1 false ++ (publish p1 draft ∷ ask (to_broker p1) ∷ [])))));
  choice = first;
  now = 0;
}

-- a second one, of others: what p2 publishes enters the queue of r1's session too, and r2 is drained
abbrev p2 : List ℕ
p2 = codes "p2"

abbrev r2 : List ℕ
r2 = codes "r2"

abbrev others : List Event
others = receiver r2 10 0 ∷ publisher p2 ∷ joins r2 false ++ (subscribes r2 ++ (joins p2 false ++ (publish p2 draft ∷ ask (to_broker p2) ∷ [])))

abbrev pub second_life : List Doing
second_life = map happens (turns others) ++ drains first r2 5 ∷ []

-- opened under any limits: a word without arguments would be computed once, and the words of UTF-8 are shut in it
abbrev pub opened_then : Capacity → World
opened_then limits = after_lives limits (first_life ∷ [])

-- one copy waits behind an opening
pub one_is_stored : waiting_for r1 (opened_then usual) ≡ 1
unfolding varint is_utf8 chars encode
one_is_stored = refl

-- another enters
pub one_more_enters : waiting_for r1 (run usual (turns others) (opened_then usual)) ≡ 2
unfolding varint is_utf8 chars encode
one_more_enters = refl

-- and its receiver is handed it
pub the_other_is_handed_its_own : handed_by (receiver_named r2 (run usual (turns (others ++ round r2)) (opened_then usual))) ≡ 2 ∷ []
unfolding varint is_utf8 chars encode
the_other_is_handed_its_own = refl

-- the first life is fair
pub the_first_is_fair : IsFairLife usual first_life start
unfolding varint is_utf8 chars encode
the_first_is_fair = record { fair = record { within = usual_within; unspent = refl; clean = refl }; unspent = refl }

-- so is the second
pub the_second_is_fair : IsFairScript usual second_life (opened_then usual)
unfolding varint is_utf8 chars encode
the_second_is_fair = record { within = usual_within; unspent = refl; clean = refl }

-- so the law holds of it
pub the_second_delivers : DoingsDeliver usual second_life (opened_then usual)
the_second_delivers = lives_deliver usual (first_life ∷ []) second_life usual_within (tt, the_first_is_fair) the_second_is_fair

-- and no copy is too large in its drain
pub none_is_too_large : AllDrainsFit usual second_life (opened_then usual)
none_is_too_large = lives_fit usual (first_life ∷ []) second_life usual_within (tt, the_first_is_fair) the_second_is_fair

-- ---- three copies wait, and the broker is opened again where two may, and where a full queue drops: of the three two make way
-- for the next one, and all of the law holds

abbrev lower : Capacity
lower = record dropping { sessions = 4 }

abbrev life_of_three : BrokerLife
life_of_three = record {
  limits = usual;
  doings = map happens (turns (receiver r1 10 0 ∷ publisher p1 ∷ joins r1 false ++ (subscribes r1 ++ (joins p1 false
      ++ (publish p1 draft ∷ publish p1 draft ∷ publish p1 draft ∷ ask (to_broker p1) ∷ ask (to_broker p1) ∷ ask (to_broker p1) ∷ [])))));
  choice = first;
  now = 0;
}

abbrev opened_there : Capacity → World
opened_there limits = after_lives limits (life_of_three ∷ [])

-- three copies wait under a limit of two
pub more_are_stored_than_may_wait : waiting_for r1 (opened_there lower) ≡ 3
unfolding varint is_utf8 chars encode
more_are_stored_than_may_wait = refl

-- two of them make way for one that enters
pub two_make_way : waiting_for r1 (run lower (turns others) (opened_there lower)) ≡ 2
unfolding varint is_utf8 chars encode
two_make_way = refl

-- that limit is within the tables
pub lower_within : AreWithin lower
lower_within = record { queue = omega arith; sessions = omega arith; retained = omega arith }

-- the life that left three is fair
pub the_three_are_fair : IsFairLife lower life_of_three start
unfolding varint is_utf8 chars encode
the_three_are_fair = record { fair = record { within = usual_within; unspent = refl; clean = refl }; unspent = refl }

-- so is the one under the lower limit
pub the_lower_is_fair : IsFairScript lower second_life (opened_there lower)
unfolding varint is_utf8 chars encode
the_lower_is_fair = record { within = lower_within; unspent = refl; clean = refl }

-- which delivers exactly once
pub the_lower_delivers : DoingsDeliver lower second_life (opened_there lower)
the_lower_delivers = lives_deliver lower (life_of_three ∷ []) second_life lower_within (tt, the_three_are_fair) the_lower_is_fair

-- ---- a PUBACK to a publisher is lost: its message of QoS 1 is accepted twice, and completed

abbrev draft_1 : Draft
draft_1 = record draft { qos = AtLeastOnce }

abbrev puback_lost : List Event
puback_lost = publisher p1 ∷ joins p1 false ++ (publish p1 draft_1 ∷ ask (to_broker p1) ∷ ask (break p1) ∷ joins p1 false ++ exchange p1)

-- a PUBLISH of QoS 1 whose PUBACK is lost
pub it_is_accepted_twice : times_accepted p1 0 usual (turns puback_lost) start ≡ 2
unfolding varint is_utf8 chars encode
it_is_accepted_twice = refl

-- completes
pub it_is_completed : fate_of p1 0 (after usual (turns puback_lost)) ≡ Some (ended_1 completed)
unfolding varint is_utf8 chars encode
it_is_completed = refl

-- in a fair run
pub its_loss_is_fair : IsFair usual (turns puback_lost) start
unfolding varint is_utf8 chars encode
its_loss_is_fair = record { within = usual_within; unspent = refl; clean = refl }

-- that delivers exactly once, as QoS 1 has it
pub its_run_delivers : DeliversExactlyOnce usual (turns puback_lost) start
its_run_delivers = run_delivers_all usual (turns puback_lost) start (start_begins usual usual_within) its_loss_is_fair

-- ---- a PUBACK of a receiver is lost: it reads its copy of QoS 1 twice, and the copy ends as taken

abbrev answer_lost : List Event
answer_lost =
    receiver r1 10 0 ∷ publisher p1 ∷ joins r1 false ++ (subscribes r1 ++ (joins p1 false
    ++ (publish p1 draft_1 ∷ ask (to_broker p1) ∷ ask (pump r1) ∷ to_end r1 ∷ ask (break r1)
    ∷ joins r1 false ++ (ask (pump r1) ∷ to_end r1 ∷ ask (to_broker r1) ∷ []))))

-- a copy of QoS 1 whose answer is lost
pub it_is_read_twice : option_map (λ (r : Receiver). read_count first_copy r) (receiver_named r1 (after usual (turns answer_lost))) ≡ Some 2
unfolding varint is_utf8 chars encode
it_is_read_twice = refl

-- ends once
pub it_is_taken_once : ended_from usual (turns answer_lost) start ≡ first_copy ∷ []
unfolding varint is_utf8 chars encode
it_is_taken_once = refl

-- in a fair run
pub its_answer_is_fair : IsFair usual (turns answer_lost) start
unfolding varint is_utf8 chars encode
its_answer_is_fair = record { within = usual_within; unspent = refl; clean = refl }

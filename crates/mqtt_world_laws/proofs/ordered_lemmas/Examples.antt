-- Worked runs: two messages of p1 are completed, and r1 is handed them in order; and one that is refused, and accepted when it is sent
-- again, comes behind a later one (MQTT 5.0, 4.3.3, 4.6).
use Rattle.std.proofs.Common.{◌≡◌, ℕ, false, List, [], ◌∷◌, ◌++◌, Option, Some, refl, arith, inl}
use Rattle.std.specs.Prelude.{option_map}
use Rattle.std.specs.Str.{is_utf8, chars}
use Rattle.std.proofs.Math.Utf8.{encode}
use Rattle.mqtt_base.specs.Values.{varint}
use Rattle.mqtt_flow.specs.inbound.Publisher.{completed, ended}
use Rattle.mqtt_rules.specs.declared.step.Capacity.{Capacity}
use Rattle.mqtt_rules.proofs.step_lemmas.examples.Play.{usual}
use Rattle.mqtt_world_model.specs.model.Ends.{Receiver}
use Rattle.mqtt_world_model.specs.model.Laws.{fate_of}
use Rattle.mqtt_world_model.specs.model.Run.{Turn, accepted_over, after, run}
use Rattle.mqtt_world_model.specs.model.World.{Event, ask, give_up, publish, publisher, receiver, receiver_named, start, to_broker, to_end}
use Rattle.mqtt_world_model.proofs.model_lemmas.examples.Scripts.{draft, exchange, joins, p1, r1, round, subscribes, turn, turns}
use Rattle.mqtt_world_laws.specs.acceptance.Fair.{IsFair}
use Rattle.mqtt_world_laws.proofs.headline_lemmas.Examples.{usual_within}
use Rattle.mqtt_world_laws.proofs.headline_lemmas.Lives.{start_begins}
use Rattle.mqtt_world_laws.specs.ordered.Ordered.{AreInOrder, WasAccepted, WerePublished, publications_handed}
use Rattle.mqtt_world_laws.proofs.ordered_lemmas.InOrder.{all_in_order}
use Rattle.mqtt_world_laws.proofs.ordered_lemmas.Refusals.{never_refused}

abbrev handed : Capacity → List Event → Option (List ℕ)
handed limits es = option_map (λ (r : Receiver). publications_handed r) (receiver_named r1 (run limits (turns es) start))

-- ---- two messages

-- r1 has subscribed, and p1 is connected
abbrev ready : List Event
ready = receiver r1 10 0 ∷ publisher p1 ∷ (joins r1 false ++ (subscribes r1 ++ joins p1 false))

-- p1 publishes two messages
abbrev both_sent : List Event
both_sent = ready ++ publish p1 draft ∷ publish p1 draft ∷ []

-- the first is accepted and answered
abbrev one_accepted : List Event
one_accepted = both_sent ++ exchange p1

-- the second is, both are completed, and r1 is sent two copies and takes them
abbrev since : List Event
since = exchange p1 ++ (exchange p1 ++ (exchange p1 ++ (round r1 ++ (round r1 ++ (round r1 ++ round r1)))))

abbrev whole : List Event
whole = one_accepted ++ since

-- both handshakes are completed
pub the_first_is_completed : fate_of p1 0 (after usual (turns whole)) ≡ Some (ended completed)
unfolding varint is_utf8 chars encode
the_first_is_completed = refl

-- and so is the second
pub the_second_is_completed : fate_of p1 1 (after usual (turns whole)) ≡ Some (ended completed)
unfolding varint is_utf8 chars encode
the_second_is_completed = refl

-- r1 was handed the first publication, and then the second
pub they_are_handed_in_order : handed usual whole ≡ Some (1 ∷ 2 ∷ [])
unfolding varint is_utf8 chars encode
they_are_handed_in_order = refl

-- in a fair run
pub it_is_fair : IsFair usual (turns whole) start
unfolding varint is_utf8 chars encode
it_is_fair = record { within = usual_within; unspent = refl; clean = refl }

-- so the law holds of it
pub it_is_in_order : AreInOrder usual (turns whole) start
it_is_in_order = all_in_order usual (turns whole) start (start_begins usual usual_within) it_is_fair

-- ---- what the law asks of them is so

abbrev reading : Turn
reading = turn (ask (to_broker p1))

first_accepted : WasAccepted p1 0 1 usual (turns whole) start
unfolding varint is_utf8 chars encode
first_accepted = record {
  earlier = turns both_sent;
  turn = reading;
  later = turns (to_end p1 ∷ since);
  are = refl;
  read = refl;
  number_is = inl refl;
}

second_accepted : WasAccepted p1 1 2 usual (turns whole) start
unfolding varint is_utf8 chars encode
second_accepted = record {
  earlier = turns one_accepted;
  turn = reading;
  later = turns (to_end p1 ∷ (exchange p1 ++ (exchange p1 ++ (round r1 ++ (round r1 ++ (round r1 ++ round r1))))));
  are = refl;
  read = refl;
  number_is = inl refl;
}

-- p1 published them, and neither was refused
pub they_were_published : WerePublished p1 0 1 1 2 usual (turns whole) start
unfolding varint is_utf8 chars encode
they_were_published = record {
  earlier = omega arith;
  exactly_once = tt;
  welcome = never_refused p1 0 usual (turns whole) start refl;
  first_is = first_accepted;
  second_is = second_accepted;
}

-- ---- a message that is refused first

-- a queue holds one copy
abbrev small : Capacity
small = record usual { queue = 1 }

-- r1 takes a copy
abbrev taken : List Event
taken = round r1 ++ round r1

-- p1 gives its line up, joins again and sends again what was not answered, of which the first is read
abbrev sent_again : List Event
sent_again = give_up p1 ∷ (joins p1 false ++ (ask (to_broker p1) ∷ taken))

-- message 2 is accepted, as there is room now
abbrev a_later_one : List Event
a_later_one = publish p1 draft ∷ ask (to_broker p1) ∷ (taken ++ sent_again)

-- message 1 is refused, which p1 doesn't read
abbrev a_refused_one : List Event
a_refused_one = publish p1 draft ∷ ask (to_broker p1) ∷ (taken ++ a_later_one)

-- message 0 is completed, and its copy fills the queue of r1
abbrev refused_first : List Event
refused_first = ready ++ publish p1 draft ∷ (exchange p1 ++ (exchange p1 ++ a_refused_one))

-- so message 1 is accepted behind message 2
pub a_refused_message_comes_later : accepted_over p1 small (turns refused_first) start ≡ 0 ∷ 2 ∷ 1 ∷ []
unfolding varint is_utf8 chars encode
a_refused_message_comes_later = refl

-- and r1 is handed them as they were accepted
pub they_are_handed_as_accepted : handed small refused_first ≡ Some (1 ∷ 2 ∷ 3 ∷ [])
unfolding varint is_utf8 chars encode
they_are_handed_as_accepted = refl

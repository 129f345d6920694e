-- Worked runs at QoS 1: r1 reads a copy again behind a lost PUBACK, and yet reads two messages of p1 first in their order; and messages whose
-- PUBACKs p1 doesn't read are accepted again, behind each other (MQTT 5.0, 4.3.2, 4.4, 4.6).
use Rattle.std.proofs.Common.{◌≡◌, ℕ, false, List, [], ◌∷◌, ◌++◌, Option, Some, refl, arith, inl}
use Rattle.std.specs.Prelude.{option_map}
use Rattle.std.specs.Str.{is_utf8, chars}
use Rattle.std.proofs.Math.Utf8.{encode}
use Rattle.mqtt_base.specs.Values.{varint}
use Rattle.mqtt_base.specs.declared.session.Qos.TheVariants.{AtLeastOnce}
use Rattle.mqtt_flow.specs.inbound.Publisher.{completed, ended_1}
use Rattle.mqtt_rules.proofs.step_lemmas.examples.Play.{usual}
use Rattle.mqtt_world_model.specs.model.Ends.{Draft, Receiver}
use Rattle.mqtt_world_model.specs.model.Laws.{fate_of}
use Rattle.mqtt_world_model.specs.model.Run.{Turn, accepted_over, after, run}
use Rattle.mqtt_world_model.specs.model.World.{Event, ask, give_up, publish, publisher, pump, receiver, receiver_named, start, to_broker, to_end}
use Rattle.mqtt_world_model.proofs.model_lemmas.examples.Scripts.{draft, exchange, joins, p1, r1, subscribes, turn, turns}
use Rattle.mqtt_world_laws.specs.acceptance.Fair.{IsFair}
use Rattle.mqtt_world_laws.proofs.headline_lemmas.Examples.{usual_within}
use Rattle.mqtt_world_laws.proofs.headline_lemmas.Lives.{start_begins}
use Rattle.mqtt_world_laws.specs.ordered.FirstReads.{AreReadInOrder, WasFirstAccepted, WereAccepted, publications_read}
use Rattle.mqtt_world_laws.specs.ordered.Ordered.{WasAccepted, publications_in}
use Rattle.mqtt_world_laws.proofs.ordered_lemmas.InOrder.{all_read_in_order}
use Rattle.mqtt_world_laws.proofs.ordered_lemmas.Refusals.{never_refused}

abbrev light : Draft
light = record draft { qos = AtLeastOnce }

abbrev reads_all : List Event → Option (List ℕ)
reads_all es = option_map (λ (r : Receiver). publications_in r.once) (receiver_named r1 (run usual (turns es) start))

abbrev reads_first : List Event → Option (List ℕ)
reads_first es = option_map publications_read (receiver_named r1 (run usual (turns es) start))

-- ---- a copy is read again

-- r1 has subscribed, and p1 is connected
abbrev ready : List Event
ready = receiver r1 10 0 ∷ publisher p1 ∷ (joins r1 false ++ (subscribes r1 ++ joins p1 false))

-- p1 publishes two messages of QoS 1
abbrev both_sent : List Event
both_sent = ready ++ publish p1 light ∷ publish p1 light ∷ []

-- the first is accepted and answered
abbrev one_accepted : List Event
one_accepted = both_sent ++ exchange p1

-- r1 is sent both, reads one, and gives its line up, with the PUBACK; on the next one it is sent both again, and reads them
abbrev read_again : List Event
read_again = ask (pump r1) ∷ to_end r1 ∷ give_up r1 ∷ (joins r1 false ++ ask (pump r1) ∷ to_end r1 ∷ to_end r1 ∷ [])

-- the second is accepted before
abbrev since : List Event
since = exchange p1 ++ read_again

abbrev whole : List Event
whole = one_accepted ++ since

-- both were acknowledged
pub the_first_is_acknowledged : fate_of p1 0 (after usual (turns whole)) ≡ Some (ended_1 completed)
unfolding varint is_utf8 chars encode
the_first_is_acknowledged = refl

-- and so was the second
pub the_second_is_acknowledged : fate_of p1 1 (after usual (turns whole)) ≡ Some (ended_1 completed)
unfolding varint is_utf8 chars encode
the_second_is_acknowledged = refl

-- r1 has read the first publication twice
pub one_is_read_again : reads_all whole ≡ Some (1 ∷ 1 ∷ 2 ∷ [])
unfolding varint is_utf8 chars encode
one_is_read_again = refl

-- each where it was read first: the first publication, and then the second
pub they_are_read_first_in_order : reads_first whole ≡ Some (1 ∷ 2 ∷ [])
unfolding varint is_utf8 chars encode
they_are_read_first_in_order = refl

-- in a fair run
pub it_is_fair : IsFair usual (turns whole) start
unfolding varint is_utf8 chars encode
it_is_fair = record { within = usual_within; unspent = refl; clean = refl }

-- so the law holds of it
pub it_is_read_in_order : AreReadInOrder usual (turns whole) start
it_is_read_in_order = all_read_in_order usual (turns whole) start (start_begins usual usual_within) it_is_fair

-- ---- what the law asks of them is so

abbrev reading : Turn
reading = turn (ask (to_broker p1))

first_accepted : WasFirstAccepted p1 0 1 usual (turns whole) start
unfolding varint is_utf8 chars encode
first_accepted = record {
  accepted = record {
    earlier = turns both_sent;
    turn = reading;
    later = turns (to_end p1 ∷ since);
    are = refl;
    read = refl;
    number_is = inl refl;
  };
  none = refl;
}

second_accepted : WasAccepted p1 1 2 usual (turns whole) start
unfolding varint is_utf8 chars encode
second_accepted = record {
  earlier = turns one_accepted;
  turn = reading;
  later = turns (to_end p1 ∷ read_again);
  are = refl;
  read = refl;
  number_is = inl refl;
}

-- p1 published them, and neither was refused
pub they_were_accepted : WereAccepted p1 0 1 1 2 usual (turns whole) start
unfolding varint is_utf8 chars encode
they_were_accepted = record {
  earlier = omega arith;
  welcome = never_refused p1 0 usual (turns whole) start refl;
  first_is = first_accepted;
  second_is = second_accepted;
}

-- ---- messages are accepted again

-- the broker reads both messages, and p1 neither PUBACK; it gives its line up, and sends both again on the next one
abbrev sent_again : List Event
sent_again = both_sent ++ ask (to_broker p1) ∷ ask (to_broker p1) ∷ give_up p1 ∷ (joins p1 false ++ ask (to_broker p1) ∷ ask (to_broker p1) ∷ [])

-- so the first is accepted again behind the second: it is its first acceptance that counts
pub they_are_accepted_again : accepted_over p1 usual (turns sent_again) start ≡ 0 ∷ 1 ∷ 0 ∷ 1 ∷ []
unfolding varint is_utf8 chars encode
they_are_accepted_again = refl

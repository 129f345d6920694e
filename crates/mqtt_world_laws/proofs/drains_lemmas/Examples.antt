-- Worked drains that are not bad: what is left after enough rounds, and after more (MQTT 5.0, 3.1.2.4, 3.8.4, 4.3, 4.4).
use Rattle.std.proofs.Common.{◌≡◌, ℕ, ◌+◌, Bool, true, false, List, [], ◌∷◌, ◌++◌, refl}
use Rattle.std.specs.Str.{is_utf8, chars}
use Rattle.std.proofs.Math.Utf8.{encode}
use Rattle.mqtt_base.specs.Values.{varint}
use Rattle.mqtt_flow.specs.declared.outbound.entry.Full.TheVariants.{Drop}
use Rattle.mqtt_rules.specs.declared.step.Capacity.{Capacity}
use Rattle.mqtt_rules.proofs.step_lemmas.examples.Play.{usual, first}
use Rattle.mqtt_world_model.specs.model.Ends.{Draft}
use Rattle.mqtt_world_model.specs.model.Run.{after}
use Rattle.mqtt_world_model.specs.model.World.{Event, World, ask, connect_end, give_up, publish, publisher, receiver, subscribe, to_broker}
use Rattle.mqtt_world_model.proofs.model_lemmas.examples.Scripts.{draft, joins, p1, r1, round, subscribes, turns, wish}
use Rattle.mqtt_world_laws.specs.receiver.Drains.{drained, enough_rounds, is_bad_drain, rounds_taken}
use Rattle.mqtt_world_laws.specs.drains.Emptied.{copies_to_take, waiting_for}

-- how many rounds are enough, and how many it takes; how many copies are left, and whether the drain of the world after it is bad;
-- and so with three rounds more
record Drained : Type 0 where
  pub enough : ℕ
  pub rounds : ℕ
  pub left : ℕ
  pub bad : Bool
  pub rounds_of_more : ℕ

abbrev drains_from : Capacity → World → Drained
drains_from limits w =
    let most = enough_rounds (copies_to_take limits first r1 w) in
    let last = drained limits first r1 most w in
    record {
      enough = most;
      rounds = rounds_taken limits first r1 most w;
      left = waiting_for r1 last;
      bad = is_bad_drain r1 last;
      rounds_of_more = rounds_taken limits first r1 (most + 3) w;
    }

abbrev drains_after : List Event → Drained
drains_after es = drains_from usual (after usual (turns es))

-- ---- two copies of QoS 2 wait

abbrev both_wait : ℕ → List Event
both_wait window =
    receiver r1 window 0 ∷ publisher p1 ∷ joins r1 false ++ (subscribes r1 ++ (joins p1 false
    ++ (publish p1 draft ∷ publish p1 draft ∷ ask (to_broker p1) ∷ ask (to_broker p1) ∷ [])))

-- two copies through a window of one
pub through_a_window_of_one : drains_after (both_wait 1) ≡ record { enough = 5; rounds = 4; left = 0; bad = false; rounds_of_more = 4 }
unfolding varint is_utf8 chars encode
through_a_window_of_one = refl

-- ---- its CONNECT is under way: the session is resumed, or with Clean Start another begins instead of it

abbrev comes_again : Bool → List Event
comes_again clean = both_wait 10 ++ round r1 ++ give_up r1 ∷ connect_end r1 clean ∷ []

-- a receiver that resumes
pub resumed_it_is_emptied : drains_after (comes_again false) ≡ record { enough = 5; rounds = 3; left = 0; bad = false; rounds_of_more = 3 }
unfolding varint is_utf8 chars encode
resumed_it_is_emptied = refl

-- each of the rounds that are enough may be needed: one for CONNECT, and two for each copy
abbrev one_by_one : List Event
one_by_one = both_wait 1 ++ give_up r1 ∷ connect_end r1 false ∷ []

-- a queue that needs each round
pub each_round_is_needed : drains_after one_by_one ≡ record { enough = 5; rounds = 5; left = 0; bad = false; rounds_of_more = 5 }
unfolding varint is_utf8 chars encode
each_round_is_needed = refl

-- and is not empty before
pub four_rounds_are_too_few : waiting_for r1 (drained usual first r1 4 (after usual (turns one_by_one))) ≡ 1
unfolding varint is_utf8 chars encode
four_rounds_are_too_few = refl

-- a receiver that starts clean
pub renewed_it_is_emptied : drains_after (comes_again true) ≡ record { enough = 5; rounds = 1; left = 0; bad = false; rounds_of_more = 1 }
unfolding varint is_utf8 chars encode
renewed_it_is_emptied = refl

-- ---- its SUBSCRIBE is under way, and its filter brings a copy more, for which the oldest that waits makes way

abbrev pub dropping : Capacity
dropping = record usual { full = Drop; queue = 2 }

abbrev kept_draft : Draft
kept_draft = record draft { content = record draft.content { retain = true } }

abbrev asks_while_full : List Event
asks_while_full =
    receiver r1 1 0 ∷ publisher p1 ∷ joins r1 false ++ (subscribes r1 ++ (joins p1 false
    ++ (publish p1 kept_draft ∷ publish p1 kept_draft ∷ ask (to_broker p1) ∷ ask (to_broker p1) ∷ subscribe r1 wish ∷ [])))

-- a copy that a subscription brings meanwhile
pub with_one_brought : drains_from dropping (after dropping (turns asks_while_full)) ≡ record { enough = 7; rounds = 4; left = 0; bad = false; rounds_of_more = 4 }
unfolding varint is_utf8 chars encode
with_one_brought = refl

-- ---- there is no place for its session: its queue is empty, its CONNECT isn't read, and its line stands

abbrev full_house : Capacity
full_house = record usual { sessions = 1 }

abbrev no_place : List Event
no_place = receiver r1 10 0 ∷ publisher p1 ∷ joins p1 false ++ connect_end r1 false ∷ []

-- a receiver without a session
pub without_a_session_nothing_is_read : drains_from full_house (after full_house (turns no_place)) ≡ record { enough = 1; rounds = 0; left = 0; bad = false; rounds_of_more = 0 }
unfolding varint is_utf8 chars encode
without_a_session_nothing_is_read = refl

-- once it is read the line is closed, and the drain is bad
pub once_refused_it_is_bad : is_bad_drain r1 (after full_house (turns (no_place ++ ask (to_broker r1) ∷ []))) ≡ true
unfolding varint is_utf8 chars encode
once_refused_it_is_bad = refl

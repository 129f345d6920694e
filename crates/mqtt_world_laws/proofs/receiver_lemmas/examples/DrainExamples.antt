-- Worked drains: how many rounds they take, how each copy ends, and what is handed over (MQTT 5.0, 4.3, 4.4, 4.9).
use Rattle.std.proofs.Common.{◌≡◌, ℕ, ◌+◌, true, false, List, [], ◌∷◌, ◌++◌, length, refl}
use Rattle.std.specs.Prelude.{codes, filter_map}
use Rattle.std.specs.Str.{is_utf8, chars}
use Rattle.std.proofs.Math.Utf8.{encode}
use Rattle.mqtt_base.specs.Values.{varint}
use Rattle.mqtt_base.specs.Reading.{groups_at, varint_at, blob_at, text_at}
use Rattle.mqtt_base.specs.Items.{items_in, items_at}
use Rattle.mqtt_base.specs.declared.session.CopyId.{CopyId}
use Rattle.mqtt_base.specs.declared.session.Cause.TheVariants.{Direct, Retained}
use Rattle.mqtt_base.specs.declared.session.Ending.TheVariants.{Taken, Expired, SessionEnded, Dropped}
use Rattle.mqtt_props.specs.Reading.{value_at, prop_at, block_at}
use Rattle.mqtt_props.specs.Laws.{layout_at}
use Rattle.mqtt_packet.specs.connect.Connect.{will_at, user_name_at, password_at, fields_at, connect_at}
use Rattle.mqtt_packet.specs.codec.Publish.{delivery_at, publish_at}
use Rattle.mqtt_packet.specs.codec.Frames.{frame_at, body_at, versioned_at, lawful_at, packet_at}
use Rattle.mqtt_packet.specs.stream.Front.{size_at, first_of}
use Rattle.mqtt_flow.specs.declared.outbound.entry.Full.TheVariants.{Drop}
use Rattle.mqtt_rules.specs.step.Deeds.{output, report}
use Rattle.mqtt_rules.specs.declared.step.Capacity.{Capacity}
use Rattle.mqtt_rules.specs.declared.step.Report.{Report}
use Rattle.mqtt_rules.specs.declared.step.Report.TheVariants.{Ended, Entered}
use Rattle.mqtt_rules.proofs.step_lemmas.examples.Play.{usual, first, bytes}
use Rattle.mqtt_world_model.specs.model.Ends.{Draft}
use Rattle.mqtt_world_model.specs.model.Run.{after, deeds_over, run}
use Rattle.mqtt_world_model.specs.model.World.{World, Event, receiver, publisher, publish, connect_end, give_up, clock, ask, to_broker, stranger, subscribe}
use Rattle.mqtt_world_model.proofs.model_lemmas.examples.Scripts.{p1, r1, draft, wish, joins, subscribes, round, turns, Sum, sum_of}
use Rattle.mqtt_world_laws.specs.acceptance.Fair.{opened_world}
use Rattle.mqtt_world_laws.specs.receiver.Drains.{copies_left, drain_turns, drained, enough_rounds, is_bad_drain, rounds_taken}

abbrev copy : ℕ → CopyId
copy number = record { publication = number; birth = 1; cause = Direct }

-- what a drain takes and makes: its rounds, how copies ended, and how many packets of the broker went out
record Drained : Type 0 where
  pub most : ℕ
  pub rounds : ℕ
  pub ended : List Report
  pub out : ℕ
  pub left : ℕ

abbrev drains_from : Capacity → ℕ → World → Drained
drains_from limits most w =
    let turns_made = drain_turns limits first r1 most w in
    let ds = deeds_over limits turns_made w in
    record {
      most = most;
      rounds = rounds_taken limits first r1 most w;
      ended = filter_map report ds;
      out = length (filter_map output ds);
      left = copies_left r1 (drained limits first r1 most w);
    }

abbrev drains_after : List Event → Drained
drains_after es = let w = after usual (turns es) in drains_from usual (enough_rounds (copies_left r1 w)) w

abbrev sum_after : List Event → Sum
sum_after es = let w = after usual (turns es) in sum_of (drained usual first r1 (enough_rounds (copies_left r1 w)) w)

-- ---- a window of one: two copies of QoS 2 that wait take four rounds

abbrev both_wait : ℕ → List Event
both_wait window =
    receiver r1 window 0 ∷ publisher p1 ∷ joins r1 false ++ (subscribes r1 ++ (joins p1 false
    ++ (publish p1 draft ∷ publish p1 draft ∷ ask (to_broker p1) ∷ ask (to_broker p1) ∷ [])))

-- two copies through a window of one take four rounds
pub two_through_a_window_of_one : drains_after (both_wait 1)
    ≡ record { most = 5; rounds = 4; ended = Ended (copy 1) r1 Taken ∷ Ended (copy 2) r1 Taken ∷ []; out = 4; left = 0 }
unfolding varint is_utf8 chars encode
two_through_a_window_of_one = refl

-- and are handed over in order
pub two_are_handed_over_in_order : sum_after (both_wait 1)
    ≡ record { handed = 1 ∷ 2 ∷ []; queue = 0; messages = 2; done = 0; publications = 2; sessions = 2 }
unfolding varint is_utf8 chars encode
two_are_handed_over_in_order = refl

-- through a wider one they take two
pub two_through_a_wide_window : drains_after (both_wait 10)
    ≡ record { most = 5; rounds = 2; ended = Ended (copy 1) r1 Taken ∷ Ended (copy 2) r1 Taken ∷ []; out = 4; left = 0 }
unfolding varint is_utf8 chars encode
two_through_a_wide_window = refl

-- ---- one is released, one was sent on an earlier line, one waits, and one that waits has expired

-- a stranger's message, with a Message Expiry Interval of a second
abbrev expires_soon : Event
expires_soon =
    ask (stranger (codes "s1")
    (bytes "10 14 00 04 4d 51 54 54 05 00 00 00 05 11 ff ff ff ff 00 02 73 31 32 0f 00 03 61 2f 62 00 01 05 02 00 00 00 01 68 69"))

abbrev all_kinds : List Event
all_kinds =
    both_wait 10 ++ round r1 ++ (give_up r1 ∷ joins r1 false
    ++ (publish p1 draft ∷ ask (to_broker p1) ∷ expires_soon ∷ clock 2000 ∷ []))

-- copies that expire, are taken, and end otherwise
pub each_in_its_way : drains_after all_kinds
    ≡ record {
      most = 9;
      rounds = 2;
      ended = Ended (copy 4) r1 Expired ∷ Ended (copy 1) r1 Taken ∷ Ended (copy 2) r1 Taken ∷ Ended (copy 3) r1 Taken ∷ [];
      out = 4;
      left = 0;
    }
unfolding varint first_of size_at packet_at frame_at versioned_at lawful_at body_at connect_at fields_at will_at user_name_at password_at publish_at delivery_at layout_at block_at items_at items_in text_at blob_at is_utf8 chars encode varint_at groups_at prop_at value_at
each_in_its_way = refl

-- ---- a CONNECT with Clean Start is under way, and the line given up is closed: the session's copies end with it

abbrev starts_anew : List Event
starts_anew = both_wait 10 ++ give_up r1 ∷ connect_end r1 true ∷ []

-- a Clean Start ends what waits
pub a_clean_start_ends_them : drains_after starts_anew
    ≡ record { most = 5; rounds = 1; ended = Ended (copy 1) r1 SessionEnded ∷ Ended (copy 2) r1 SessionEnded ∷ []; out = 2; left = 0 }
unfolding varint is_utf8 chars encode
a_clean_start_ends_them = refl

-- ---- a SUBSCRIBE is under way, and the queue drops when it is full: of two copies the one that waits makes way for that of the
-- retained message; it counts as one that entered

abbrev dropping : Capacity
dropping = record usual { full = Drop; queue = 2 }

abbrev kept_draft : Draft
kept_draft = record draft { content = record draft.content { retain = true } }

abbrev asks_while_full : List Event
asks_while_full =
    receiver r1 1 0 ∷ publisher p1 ∷ joins r1 false ++ (subscribes r1 ++ (joins p1 false
    ++ (publish p1 kept_draft ∷ publish p1 kept_draft ∷ ask (to_broker p1) ∷ ask (to_broker p1) ∷ subscribe r1 wish ∷ [])))

abbrev brought : CopyId
brought = record { publication = 2; birth = 1; cause = Retained 2 }

-- a copy that makes way for a retained one
pub one_makes_way : drains_from dropping (enough_rounds (2 + 1)) (after dropping (turns asks_while_full))
    ≡ record {
      most = 7;
      rounds = 4;
      ended = Ended (copy 2) r1 Dropped ∷ Entered brought r1 ∷ Ended (copy 1) r1 Taken ∷ Ended brought r1 Taken ∷ [];
      out = 5;
      left = 0;
    }
unfolding varint is_utf8 chars encode
one_makes_way = refl

-- ---- three copies wait, and the broker is opened again with room for two in a queue: the three are taken, and in order; under
-- Drop none makes way for what doesn't come

abbrev refusing : Capacity
refusing = record usual { queue = 2 }

abbrev opened_smaller : Capacity → World
opened_smaller limits =
    let w = after usual (turns (both_wait 1 ++ publish p1 draft ∷ ask (to_broker p1) ∷ [])) in
    run limits (turns (receiver r1 1 0 ∷ joins r1 false)) (opened_world limits first 0 w.broker.records)

-- a broker with a smaller limit than what waits
pub more_wait_than_may : copies_left r1 (opened_smaller refusing) ≡ 3
unfolding varint is_utf8 chars encode
more_wait_than_may = refl

-- hands all over
pub all_three_are_taken : drains_from refusing (enough_rounds 3) (opened_smaller refusing)
    ≡ record { most = 7; rounds = 6; ended = Ended (copy 1) r1 Taken ∷ Ended (copy 2) r1 Taken ∷ Ended (copy 3) r1 Taken ∷ []; out = 6; left = 0 }
unfolding varint is_utf8 chars encode
all_three_are_taken = refl

-- also if its full queues drop
pub none_of_three_makes_way : drains_from dropping (enough_rounds 3) (opened_smaller dropping)
    ≡ record { most = 7; rounds = 6; ended = Ended (copy 1) r1 Taken ∷ Ended (copy 2) r1 Taken ∷ Ended (copy 3) r1 Taken ∷ []; out = 6; left = 0 }
unfolding varint is_utf8 chars encode
none_of_three_makes_way = refl

-- ---- an empty queue takes no round; nobody drains a publisher, or an end without a line

-- nothing to drain takes no round
pub nothing_waits : rounds_taken usual first r1 1 (after usual (turns (receiver r1 10 0 ∷ joins r1 false))) ≡ 0
unfolding varint is_utf8 chars encode
nothing_waits = refl

-- a publisher cannot be drained
pub a_publisher_is_not_drained : is_bad_drain p1 (after usual (turns (both_wait 10))) ≡ true
unfolding varint is_utf8 chars encode
a_publisher_is_not_drained = refl

-- nor can a receiver without a line
pub one_without_a_line_is_not_drained : is_bad_drain r1 (after usual (turns (both_wait 10 ++ give_up r1 ∷ []))) ≡ true
unfolding varint is_utf8 chars encode
one_without_a_line_is_not_drained = refl

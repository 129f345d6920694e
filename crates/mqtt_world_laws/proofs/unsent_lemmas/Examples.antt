-- Worked runs: a copy that expires while it waits, and one that makes way in a full queue, are never handed over; one that was sent was,
-- though its session ends (MQTT 5.0, 3.1.2.4, 3.3.2.3.3, 4.3.3).
use Rattle.std.proofs.Common.{◌≡◌, ℕ, true, false, List, [], ◌∷◌, ◌++◌, map, Option, Some, refl, arith}
use Rattle.std.specs.Prelude.{All, codes, option_map}
use Rattle.std.specs.Str.{is_utf8, chars}
use Rattle.std.proofs.Math.Utf8.{encode}
use Rattle.mqtt_base.specs.Values.{varint}
use Rattle.mqtt_base.specs.Reading.{groups_at, varint_at, blob_at, text_at}
use Rattle.mqtt_base.specs.Items.{items_in, items_at}
use Rattle.mqtt_base.specs.declared.session.Cause.TheVariants.{Direct}
use Rattle.mqtt_base.specs.declared.session.CopyId.{CopyId}
use Rattle.mqtt_base.specs.declared.session.Ending.{Ending}
use Rattle.mqtt_base.specs.declared.session.Ending.TheVariants.{Dropped, Expired, SessionEnded, Taken}
use Rattle.mqtt_props.specs.Reading.{value_at, prop_at, block_at}
use Rattle.mqtt_props.specs.Laws.{layout_at}
use Rattle.mqtt_packet.specs.connect.Connect.{will_at, user_name_at, password_at, fields_at, connect_at}
use Rattle.mqtt_packet.specs.codec.Publish.{delivery_at, publish_at}
use Rattle.mqtt_packet.specs.codec.Frames.{frame_at, body_at, versioned_at, lawful_at, packet_at}
use Rattle.mqtt_packet.specs.stream.Front.{size_at, first_of}
use Rattle.mqtt_flow.specs.declared.outbound.entry.Full.TheVariants.{Drop}
use Rattle.mqtt_rules.specs.declared.step.Capacity.{Capacity}
use Rattle.mqtt_rules.proofs.step_lemmas.examples.Play.{bytes, usual}
use Rattle.mqtt_world_model.specs.model.Ends.{Receiver}
use Rattle.mqtt_world_model.specs.model.Laws.{handed_count}
use Rattle.mqtt_world_model.specs.model.Run.{End, after, ended_over}
use Rattle.mqtt_world_model.specs.model.World.{Event, World, ask, break, clock, connect_end, publish, publisher, receiver, receiver_named, start, stranger, to_broker}
use Rattle.mqtt_world_model.proofs.model_lemmas.examples.Scripts.{draft, joins, p1, pumped, r1, round, subscribes, turns}
use Rattle.mqtt_world_laws.specs.acceptance.Fair.{IsFair}
use Rattle.mqtt_world_laws.specs.unsent.Unsent.{WasNeverHanded}
use Rattle.mqtt_world_laws.proofs.unsent_lemmas.Unsent.{all_never_handed}

-- the copy of a publication for r1's first session
abbrev copy : ℕ → CopyId
copy number = record { publication = number; birth = 1; cause = Direct }

-- how copies ended, and how often r1 was handed each of them
pub record Came : Type 0 where
  pub copy : CopyId
  pub by : Ending
  pub handed : Option ℕ

abbrev came_in : World → End → Came
came_in w e = record { copy = e.copy; by = e.by; handed = option_map (λ (r : Receiver). handed_count e.copy r) (receiver_named r1 w) }

abbrev came : Capacity → List Event → List Came
came limits es = map (came_in (after limits (turns es))) (ended_over limits (turns es))

abbrev ended : ℕ → Ending → ℕ → Came
ended number by times = record { copy = copy number; by = by; handed = Some times }

-- ---- a stranger's message lives for a second, and nothing is sent for two; p1's goes out

abbrev expires_soon : Event
expires_soon =
    ask (stranger (codes "s1")
    (bytes "10 14 00 04 4d 51 54 54 05 00 00 00 05 11 ff ff ff ff 00 02 73 31 32 0f 00 03 61 2f 62 00 01 05 02 00 00 00 01 68 69"))

abbrev late : List Event
late =
    receiver r1 10 0 ∷ publisher p1 ∷ joins r1 false ++ (subscribes r1 ++ (joins p1 false
    ++ (expires_soon ∷ clock 2000 ∷ publish p1 draft ∷ ask (to_broker p1) ∷ round r1 ++ (round r1 ++ round r1))))

-- a copy that expires
pub the_late_one_is_never_handed_over : came usual late ≡ ended 1 Expired 0 ∷ ended 2 Taken 1 ∷ []
unfolding varint first_of size_at packet_at frame_at versioned_at lawful_at body_at connect_at fields_at will_at user_name_at password_at publish_at delivery_at layout_at block_at items_at items_in text_at blob_at is_utf8 chars encode varint_at groups_at prop_at value_at
the_late_one_is_never_handed_over = refl

-- ---- a queue of one copy drops it for the next

abbrev dropping : Capacity
dropping = record usual { full = Drop; queue = 1 }

abbrev crowded : List Event
crowded =
    receiver r1 10 0 ∷ publisher p1 ∷ joins r1 false ++ (subscribes r1 ++ (joins p1 false
    ++ (publish p1 draft ∷ publish p1 draft ∷ ask (to_broker p1) ∷ ask (to_broker p1) ∷ round r1 ++ (round r1 ++ round r1))))

-- one that makes way
pub the_one_that_made_way_is_never_handed_over : came dropping crowded ≡ ended 1 Dropped 0 ∷ ended 2 Taken 1 ∷ []
unfolding varint is_utf8 chars encode
the_one_that_made_way_is_never_handed_over = refl

-- in a fair run
pub crowded_is_fair : IsFair dropping (turns crowded) start
unfolding varint is_utf8 chars encode
crowded_is_fair = record { within = record { queue = omega arith; sessions = omega arith; retained = omega arith }; unspent = refl; clean = refl }

-- so the law holds of it
pub the_law_holds : All (λ (r : Receiver). All (WasNeverHanded r) (ended_over dropping (turns crowded))) (after dropping (turns crowded)).receivers
the_law_holds = all_never_handed dropping (turns crowded) crowded_is_fair

-- ---- of one that was sent it says nothing: this one was handed over before its session ended

abbrev begun_anew : List Event
begun_anew = pumped ++ ask (break r1) ∷ connect_end r1 true ∷ ask (to_broker r1) ∷ []

-- one that was sent, and whose session ends
pub one_that_was_sent_was_handed_over : came usual begun_anew ≡ ended 1 SessionEnded 1 ∷ []
unfolding varint is_utf8 chars encode
one_that_was_sent_was_handed_over = refl

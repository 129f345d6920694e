-- A worked run: two copies that never stood in a queue together are in the ledger as they entered (MQTT 5.0, 4.3.3, 4.6).
use Rattle.std.proofs.Common.{◌≡◌, ℕ, true, false, List, [], ◌∷◌, ◌++◌, map, Option, Some, refl}
use Rattle.std.specs.Prelude.{option_map}
use Rattle.std.specs.Str.{is_utf8, chars}
use Rattle.std.proofs.Math.Utf8.{encode}
use Rattle.mqtt_base.specs.Values.{varint}
use Rattle.mqtt_base.specs.declared.session.Cause.TheVariants.{Direct}
use Rattle.mqtt_base.specs.declared.session.CopyId.{CopyId}
use Rattle.mqtt_rules.proofs.step_lemmas.examples.Play.{first, usual}
use Rattle.mqtt_world_model.specs.model.Ends.{Receiver}
use Rattle.mqtt_world_model.specs.model.Laws.{copies_in, stand_among}
use Rattle.mqtt_world_model.specs.model.Run.{run}
use Rattle.mqtt_world_model.specs.model.World.{Event, World, ask, publish, publisher, receiver, receiver_named, start, to_broker}
use Rattle.mqtt_world_model.proofs.model_lemmas.examples.Scripts.{draft, joins, p1, r1, subscribes, turns}
use Rattle.mqtt_world_laws.specs.acceptance.Copies.{entered_from}
use Rattle.mqtt_world_laws.specs.receiver.Drains.{Doing, after_doings, all_turns, drains, happens}
use Rattle.mqtt_world_laws.specs.drains.Emptied.{waiting_for}
use Rattle.mqtt_world_laws.specs.headline.Delivery.{DoingsDeliver}
use Rattle.mqtt_world_laws.specs.headline.Lives.{IsFairScript}
use Rattle.mqtt_world_laws.proofs.headline_lemmas.Delivered.{script_delivers}
use Rattle.mqtt_world_laws.proofs.headline_lemmas.Examples.{usual_within}
use Rattle.mqtt_world_laws.proofs.headline_lemmas.Lives.{start_begins}

abbrev copy : ℕ → CopyId
copy number = record { publication = number; birth = 1; cause = Direct }

-- what r1 has in its ledger, copy by copy
abbrev ledger_in : World → Option (List CopyId)
ledger_in w = option_map (λ (r : Receiver). copies_in r.ledger) (receiver_named r1 w)

abbrev begun : ℕ → List Event
begun window = receiver r1 window 0 ∷ publisher p1 ∷ joins r1 false ++ (subscribes r1 ++ joins p1 false)

abbrev says : List Event
says = publish p1 draft ∷ ask (to_broker p1) ∷ []

-- ---- a message is published and the queue drained, and then another

-- each is drained before the next one comes
abbrev pub one_by_one : List Doing
one_by_one = map happens (turns (begun 10 ++ says)) ++ drains first r1 3 ∷ map happens (turns says) ++ drains first r1 3 ∷ []

-- the first has left the queue before the second enters
pub the_first_is_gone : waiting_for r1 (after_doings usual (map happens (turns (begun 10 ++ says)) ++ drains first r1 3 ∷ []) start) ≡ 0
unfolding varint is_utf8 chars encode
the_first_is_gone = refl

-- the copies that enter, in order
pub both_entered : entered_from usual (all_turns usual one_by_one start) start ≡ copy 1 ∷ copy 2 ∷ []
unfolding varint is_utf8 chars encode
both_entered = refl

-- the ledger has both, in that order
pub both_were_handed_over : ledger_in (after_doings usual one_by_one start) ≡ Some (copy 1 ∷ copy 2 ∷ [])
unfolding varint is_utf8 chars encode
both_were_handed_over = refl

-- so the ledger stands among what entered
pub they_stand_as_they_entered : stand_among (copy 1 ∷ copy 2 ∷ []) (entered_from usual (all_turns usual one_by_one start) start) ≡ true
unfolding varint is_utf8 chars encode
they_stand_as_they_entered = refl

-- and in no other order
pub they_do_not_the_other_way : stand_among (copy 2 ∷ copy 1 ∷ []) (entered_from usual (all_turns usual one_by_one start) start) ≡ false
unfolding varint is_utf8 chars encode
they_do_not_the_other_way = refl

-- all that is asked of a script
pub one_by_one_is_fair : IsFairScript usual one_by_one start
unfolding varint is_utf8 chars encode
one_by_one_is_fair = record { within = usual_within; unspent = refl; clean = refl }

-- so the law holds of it
pub one_by_one_delivers : DoingsDeliver usual one_by_one start
one_by_one_delivers = script_delivers usual one_by_one start (start_begins usual usual_within) one_by_one_is_fair

-- and says the order, of whatever r1 comes to
pub the_law_says_their_order : (r : Receiver) → receiver_named r1 (run usual (all_turns usual one_by_one start) start) ≡ Some r
    → stand_among (copies_in r.ledger) (entered_from usual (all_turns usual one_by_one start) start) ≡ true
the_law_says_their_order r there = (one_by_one_delivers.delivers.receivers r1 r there).as_entered

-- A worked run: a receiver subscribes by two filters that match a retained message, and each SUBSCRIBE brings a copy of it (MQTT 5.0,
-- 3.3.1.3, 3.8.4).
use Rattle.std.proofs.Common.{◌≡◌, ℕ, true, false, List, [], ◌∷◌, ◌++◌, filter, map, refl}
use Rattle.std.specs.Prelude.{codes}
use Rattle.std.specs.Str.{is_utf8, chars}
use Rattle.std.proofs.Math.Utf8.{encode}
use Rattle.mqtt_base.specs.Values.{varint}
use Rattle.mqtt_base.specs.declared.session.Cause.TheVariants.{Direct, Retained}
use Rattle.mqtt_base.specs.declared.session.CopyId.{CopyId}
use Rattle.mqtt_rules.proofs.step_lemmas.examples.Play.{first, usual}
use Rattle.mqtt_world_model.specs.model.Ends.{Draft}
use Rattle.mqtt_world_model.specs.model.Laws.{is_own}
use Rattle.mqtt_world_model.specs.model.Tellings.{handed_by}
use Rattle.mqtt_world_model.specs.model.World.{Event, ask, publish, publisher, receiver, receiver_named, start, subscribe, to_broker}
use Rattle.mqtt_world_model.proofs.model_lemmas.examples.Scripts.{draft, exchange, joins, p1, r1, subscribes, turns, wish}
use Rattle.mqtt_world_laws.specs.acceptance.Copies.{ended_from, entered_from}
use Rattle.mqtt_world_laws.specs.receiver.Drains.{Doing, after_doings, all_turns, drains, happens}
use Rattle.mqtt_world_laws.specs.headline.Delivery.{DoingsDeliver}
use Rattle.mqtt_world_laws.specs.headline.Lives.{IsFairScript}
use Rattle.mqtt_world_laws.proofs.headline_lemmas.Delivered.{script_delivers}
use Rattle.mqtt_world_laws.proofs.headline_lemmas.Examples.{usual_within}
use Rattle.mqtt_world_laws.proofs.headline_lemmas.Lives.{start_begins}

abbrev kept_draft : Draft
kept_draft = record draft { content = record draft.content { retain = true } }

abbrev r2 : List ℕ
r2 = codes "r2"

-- r1 is there as it is published, and r2 comes later: it subscribes to a/b, and then to +/b
abbrev subscribes_twice : List Event
subscribes_twice =
    receiver r1 10 0 ∷ receiver r2 10 0 ∷ publisher p1 ∷ joins r1 false ++ (subscribes r1 ++ (joins p1 false
    ++ (publish p1 kept_draft ∷ ask (to_broker p1) ∷ joins r2 false
    ++ (subscribes r2 ++ subscribe r2 (record wish { filter = codes "+/b" }) ∷ exchange r2))))

abbrev pub brought_twice : List Doing
brought_twice = map happens (turns subscribes_twice) ++ drains first r2 5 ∷ []

abbrev routed : CopyId
routed = record { publication = 1; birth = 1; cause = Direct }

-- by the second SUBSCRIBE of the run, and by the third
abbrev brought : ℕ → CopyId
brought number = record { publication = 1; birth = 3; cause = Retained number }

-- what enters: the copy of the routing, and one for each SUBSCRIBE of r2
pub two_are_brought_later : entered_from usual (all_turns usual brought_twice start) start ≡ routed ∷ brought 2 ∷ brought 3 ∷ []
unfolding varint is_utf8 chars encode
two_are_brought_later = refl

-- of the routing there is one copy alone
pub neither_is_of_the_routing : filter (is_own 1) (entered_from usual (all_turns usual brought_twice start) start) ≡ routed ∷ []
unfolding varint is_utf8 chars encode
neither_is_of_the_routing = refl

-- r2 is handed the one publication twice, as two copies
pub both_are_handed_over : handed_by (receiver_named r2 (after_doings usual brought_twice start)) ≡ 1 ∷ 1 ∷ []
unfolding varint is_utf8 chars encode
both_are_handed_over = refl

-- and each of them ends once
pub both_end_as_taken : ended_from usual (all_turns usual brought_twice start) start ≡ brought 2 ∷ brought 3 ∷ []
unfolding varint is_utf8 chars encode
both_end_as_taken = refl

-- all that is asked of a script
pub brought_twice_is_fair : IsFairScript usual brought_twice start
unfolding varint is_utf8 chars encode
brought_twice_is_fair = record { within = usual_within; unspent = refl; clean = refl }

-- so the law holds of it
pub brought_twice_delivers : DoingsDeliver usual brought_twice start
brought_twice_delivers = script_delivers usual brought_twice start (start_begins usual usual_within) brought_twice_is_fair

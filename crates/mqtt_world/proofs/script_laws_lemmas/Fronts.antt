-- Wherever a script has come to, the broker takes what is under way; so no packet in front is one that it would not take (MQTT 5.0,
-- 1.5.4, 2.1.4, 2.2.1).
use Rattle.std.proofs.Common.{ℕ, List, [], ◌∷◌, Option, Some, None, inl, inr, refl, sym, subst}
use Rattle.std.specs.List.{AllByRecursion}
use Rattle.mqtt_packet.specs.declared.codec.packet.Packet.{Packet}
use Rattle.mqtt_rules.specs.step.Contents.{IsTaken}
use Rattle.mqtt_rules.specs.step.Laws.{AreWithin}
use Rattle.mqtt_rules.specs.declared.step.Capacity.{Capacity}
use Rattle.mqtt_world_model.specs.model.Tellings.{Telling}
use Rattle.mqtt_world_model.specs.model.World as world
use Rattle.mqtt_world_model.specs.model.World.{World, ask, input_on, start, view_of}
use Rattle.mqtt_rules.specs.spelling.Sending.{SendsWell}
use Rattle.mqtt_world_laws.specs.reading.UnderWay.{IsUninhabited, TakesAllUnderWay}
use Rattle.mqtt_world_laws.proofs.reading_lemmas.Runs.{start_sends, under_way}
use Rattle.mqtt_script.specs.declared.event.Event.{Event}
use Rattle.mqtt_world.specs.script_laws.Scripted.{HasBadFront, IsBad, IsBadHere, IsRefused, IsRunOf, RunsTo, bad_as_drain, bad_as_event, bad_drain, bad_event}
use Rattle.mqtt_world.specs.script_laws.Scripted.{front_of, packet_of}
use Rattle.mqtt_world.proofs.script_laws_lemmas.Scripts.{runs_by_turns}

-- ---- what is in front

front_taken : (o : Option ℕ) (packets : List Packet) → AllByRecursion IsTaken packets → IsRefused (packet_of (input_on o packets)) → ⊥
front_taken None packets h bad = bad
front_taken (Some n) [] h bad = bad
front_taken (Some n) (packet ∷ rest) h bad = bad h.0

asked_taken : (a : world.Asking) (w : World) → TakesAllUnderWay w → IsRefused (front_of a w) → ⊥
asked_taken (world.to_broker client) w h bad = let v = view_of client w in front_taken v.number v.up (h client).up bad
asked_taken (world.old_to_broker client) w h bad = let v = view_of client w in front_taken v.old_number v.old (h client).old bad
asked_taken (world.break client) w h bad = bad
asked_taken (world.pump client) w h bad = bad
asked_taken world.tick w h bad = bad
asked_taken (world.stranger name bytes) w h bad = bad

fronts_taken : (x : world.Event) (w : World) → TakesAllUnderWay w → HasBadFront x w → ⊥
fronts_taken (ask a) w h bad = asked_taken a w h bad
fronts_taken (world.stop_before a) w h bad = asked_taken a w h bad
fronts_taken (world.stop_after a) w h bad = asked_taken a w h bad
fronts_taken (world.publisher client) w h bad = bad
fronts_taken (world.receiver client window aliases) w h bad = bad
fronts_taken (world.connect_end client clean) w h bad = bad
fronts_taken (world.give_up client) w h bad = bad
fronts_taken (world.publish client d) w h bad = bad
fronts_taken (world.subscribe client x) w h bad = bad
fronts_taken (world.to_end client) w h bad = bad
fronts_taken (world.clock wait) w h bad = bad
fronts_taken world.restart w h bad = bad

only_bad : (e : Event) (w : World) → TakesAllUnderWay w → IsBadHere e w → IsBad e w
only_bad e w h (bad_event x is (inl bad)) = bad_as_event x is bad
only_bad e w h (bad_event x is (inr front)) = absurd (fronts_taken x w h front)
only_bad e w h (bad_drain client is bad) = bad_as_drain client is bad

-- ---- where a script has come to

script_takes : (limits : Capacity) (es : List Event) (tells : List Telling) (w after : World) → IsUninhabited w → SendsWell w.broker
    → RunsTo limits es tells w after → TakesAllUnderWay after
script_takes limits es tells w after nobody sends runs =
    let by : IsRunOf limits es w after = runs_by_turns limits es tells w after runs in
    subst TakesAllUnderWay (sym by.is) (under_way limits by.turns w nobody sends by.unspent)

-- no packet in front is one that the broker would not take
pub script_fronts : (limits : Capacity) (es : List Event) (tells : List Telling) (w after : World) → IsUninhabited w → SendsWell w.broker
    → RunsTo limits es tells w after → (x : world.Event) → HasBadFront x after → ⊥
script_fronts limits es tells w after nobody sends runs x bad = fronts_taken x after (script_takes limits es tells w after nobody sends runs) bad

-- so an event is refused only if it is bad
pub script_refuses : (limits : Capacity) (es : List Event) (tells : List Telling) (w after : World) → IsUninhabited w → SendsWell w.broker
    → RunsTo limits es tells w after → (e : Event) → IsBadHere e after → IsBad e after
script_refuses limits es tells w after nobody sends runs e bad = only_bad e after (script_takes limits es tells w after nobody sends runs) bad

-- also from the start
pub start_refuses : (limits : Capacity) (es : List Event) (tells : List Telling) (after : World) → AreWithin limits
    → RunsTo limits es tells start after → (e : Event) → IsBadHere e after → IsBad e after
start_refuses limits es tells after within runs e bad =
    script_refuses limits es tells start after (record { publishers = refl; receivers = refl; strangers = refl }) (start_sends limits within) runs e bad

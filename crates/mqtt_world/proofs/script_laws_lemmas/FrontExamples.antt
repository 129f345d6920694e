-- Worked: what is asked of the beginning is needed. Where an end stands whose name is no text, as no event makes one, it connects,
-- and the broker would not take its CONNECT (MQTT 5.0, 1.5.4, 3.1.3.1).
use Rattle.std.proofs.Common.{◌≡◌, ℕ, true, false, List, [], ◌∷◌, Some, inr, refl, sym, subst, true≢false, ◌∙◌}
use Rattle.std.specs.Str.{is_utf8, chars}
use Rattle.std.proofs.Math.Utf8.{encode}
use Rattle.mqtt_base.specs.Values.{is_text}
use Rattle.mqtt_rules.proofs.step_lemmas.examples.Play.{usual}
use Rattle.mqtt_world_model.specs.model.Ends.{connect_with, new_publisher}
use Rattle.mqtt_world_model.specs.model.Run.{run}
use Rattle.mqtt_world_model.specs.model.World.{World, ask, connect_end, is_bad, publisher, start, to_broker}
use Rattle.mqtt_world_model.proofs.model_lemmas.examples.Scripts.{turns}
use Rattle.mqtt_script.specs.declared.event.Event.TheVariants.{ToBroker}
use Rattle.mqtt_world.specs.script_laws.Scripted.{IsBadHere, IsRefused, bad_event, front_of}

-- a byte that no UTF-8 has
abbrev odd : List ℕ
odd = 255 ∷ []

-- the name is no text
pub it_is_no_text : is_text odd ≡ false
unfolding is_utf8 chars encode
it_is_no_text = refl

-- so it is bad that such an end comes
pub none_comes : is_bad (publisher odd) start ≡ true
unfolding is_utf8 chars encode
none_comes = refl

-- where one stands, it connects
abbrev joined : World
joined = run usual (turns (connect_end odd true ∷ [])) (record start { publishers = new_publisher odd ∷ [] })

-- its CONNECT is in front
pub its_connect_is_in_front : front_of (to_broker odd) joined ≡ Some (connect_with odd true [])
its_connect_is_in_front = refl

-- that the broker reads it is no bad event of the world
pub it_is_not_bad : is_bad (ask (to_broker odd)) joined ≡ false
it_is_not_bad = refl

-- and still the event is refused, since the broker would not take the packet
pub it_is_refused : IsBadHere (ToBroker odd false) joined
it_is_refused =
    bad_event (ask (to_broker odd)) refl
    (inr (subst IsRefused (sym its_connect_is_in_front) (λ taken. true≢false (sym (sym it_is_no_text ∙ taken.spelled.0.2.1)))))

-- Worked: an end carries its Clean Start through, and then gives its line up and resumes its session (MQTT 5.0, 3.1.2.4).
use Rattle.std.proofs.Common.{◌≡◌, true, false, List, [], ◌∷◌, refl}
use Rattle.std.specs.Str.{is_utf8, chars}
use Rattle.std.proofs.Math.Utf8.{encode}
use Rattle.mqtt_base.specs.Values.{varint}
use Rattle.mqtt_rules.proofs.step_lemmas.examples.Play.{usual}
use Rattle.mqtt_world_model.specs.model.Run.{are_beginnings_clean}
use Rattle.mqtt_world_model.specs.model.World.{Event, ask, connect_end, give_up, receiver, start, to_broker, to_end}
use Rattle.mqtt_world_model.proofs.model_lemmas.examples.Scripts.{r1, turns}

-- r1 connects with Clean Start 1, reads its CONNACK, gives its line up, and connects with Clean Start 0
abbrev returning : List Event
returning = receiver r1 10 0 ∷ connect_end r1 true ∷ ask (to_broker r1) ∷ to_end r1 ∷ give_up r1 ∷ connect_end r1 false ∷ []

-- r1 gives its line up before the CONNACK is read
abbrev leaving : List Event
leaving = receiver r1 10 0 ∷ connect_end r1 true ∷ ask (to_broker r1) ∷ give_up r1 ∷ []

-- once its CONNACK is read an end begins clean, whatever it does then
pub a_clean_start_is_over_with_its_connack : are_beginnings_clean usual (turns returning) start ≡ true
unfolding varint is_utf8 chars encode
a_clean_start_is_over_with_its_connack = refl

-- before that it doesn't
pub it_is_not_over_before : are_beginnings_clean usual (turns leaving) start ≡ false
unfolding varint is_utf8 chars encode
it_is_not_over_before = refl

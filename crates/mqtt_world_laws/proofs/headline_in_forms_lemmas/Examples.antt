-- A worked script in forms: the receiver of two messages of QoS 2 is drained, and knows then what the alias that the first named
-- stands for (MQTT 5.0, 3.3.2.3.4, 4.3.3).
use Rattle.std.proofs.Common.{◌≡◌, ℕ, false, List, [], ◌∷◌, ◌++◌, map, Option, Some, refl}
use Rattle.std.specs.Prelude.{option_map}
use Rattle.std.specs.Str.{is_utf8, chars}
use Rattle.std.proofs.Math.Utf8.{encode}
use Rattle.mqtt_base.specs.Values.{varint}
use Rattle.mqtt_rules.proofs.step_lemmas.examples.Play.{first, topic, usual}
use Rattle.mqtt_world_model.specs.model.Ends.{Entry, Receiver}
use Rattle.mqtt_world_model.specs.model.World.{Event, ask, publish, publisher, receiver, receiver_named, start, to_broker}
use Rattle.mqtt_world_model.proofs.model_lemmas.examples.Scripts.{draft, joins, p1, r1, subscribes, turns}
use Rattle.mqtt_world_laws.specs.receiver.Drains.{Doing, drains, happens}
use Rattle.mqtt_world_laws.proofs.headline_lemmas.Examples.{usual_within}
use Rattle.mqtt_world_laws.specs.headline.Lives.{IsFairScript}
use Rattle.mqtt_world_laws.specs.telling.AsSent.{Most, start_as_sent}
use Rattle.mqtt_world_laws.specs.headline_in_forms.Delivery.{DoingsDeliver}
use Rattle.mqtt_world_laws.specs.headline_in_forms.Drains.{after_doings}
use Rattle.mqtt_world_laws.proofs.headline_in_forms_lemmas.Begins.{nothing_delivers}

-- each client takes one alias
abbrev one : Most
one n = 1

-- r1 has subscribed to a/b; p1 publishes there twice
abbrev events : List Event
events =
    receiver r1 10 0 ∷ publisher p1 ∷ joins r1 false
    ++ (subscribes r1 ++ (joins p1 false ++ (publish p1 draft ∷ publish p1 draft ∷ ask (to_broker p1) ∷ ask (to_broker p1) ∷ [])))

-- and r1 is drained
abbrev script : List Doing
script = map happens (turns events) ++ drains first r1 5 ∷ []

abbrev read_of : Most → Option (List (List ℕ))
read_of most = option_map (λ (r : Receiver). map (λ (e : Entry). e.body.topic) r.ledger) (receiver_named r1 (after_doings most usual script start_as_sent).world)

-- both are handed over, with the topic
pub both_are_handed_over : read_of one ≡ Some (topic ∷ topic ∷ [])
unfolding varint is_utf8 chars encode
both_are_handed_over = refl

-- the alias stands for it then
pub its_alias_is_known : (after_doings one usual script start_as_sent).known ≡ record { max = 1; topics = (1, topic) ∷ [] } ∷ []
unfolding varint is_utf8 chars encode
its_alias_is_known = refl

-- the script is fair
pub the_script_is_fair : IsFairScript usual script start
unfolding varint is_utf8 chars encode
the_script_is_fair = record { within = usual_within; unspent = refl; clean = refl }

-- so it delivers exactly once, in forms
pub the_script_delivers : DoingsDeliver one usual script start_as_sent
the_script_delivers = nothing_delivers one usual script the_script_is_fair

-- Worked runs: a subscriber of granted QoS 0 gets its copy at once, and a stop keeps it back (MQTT 5.0, 3.3.4, 4.3.1).
use Rattle.std.proofs.Common.{◌≡◌, ℕ, false, List, [], ◌∷◌, ◌++◌, None, refl}
use Rattle.std.specs.Prelude.{flat_map, length}
use Rattle.std.specs.Str.{is_utf8, chars}
use Rattle.std.proofs.Math.Utf8.{encode}
use Rattle.mqtt_base.specs.Values.{varint}
use Rattle.mqtt_base.specs.declared.session.Qos.TheVariants.{AtMostOnce}
use Rattle.mqtt_rules.proofs.step_lemmas.examples.Play.{usual, topic, options}
use Rattle.mqtt_world_model.specs.model.Ends.{Wish}
use Rattle.mqtt_world_model.specs.model.World.{Event, publisher, receiver, publish, subscribe, ask, to_broker, stop_after, receiver_named, start}
use Rattle.mqtt_world_model.specs.model.Run.{run}
use Rattle.mqtt_world_model.proofs.model_lemmas.examples.Scripts.{turns, p1, r1, draft, joins, exchange}
use Rattle.mqtt_world_laws.specs.acceptance.AtOnce.{due_in, under_way}
use Rattle.mqtt_world_laws.specs.acceptance.Copies.{entered_from}
use Rattle.mqtt_world_laws.specs.acceptance.Steps.{steps_over}

abbrev wish : Wish
wish = record { filter = topic; options = options AtMostOnce; identifier = None }

abbrev subscribed : List Event
subscribed =
    receiver r1 10 0 ∷ joins r1 false ++ (subscribe r1 wish ∷ exchange r1 ++ (publisher p1 ∷ joins p1 false ++ (publish p1 draft ∷ [])))

abbrev given : List Event
given = subscribed ++ ask (to_broker p1) ∷ []

abbrev stopped : List Event
stopped = subscribed ++ stop_after (to_broker p1) ∷ []

abbrev waiting_after : List Event → ℕ
waiting_after es = length (under_way (receiver_named r1 (run usual (turns es) start)))

abbrev due_after : List Event → ℕ
due_after es = length (flat_map due_in (steps_over usual (turns es) start))

-- before the publication
pub nothing_is_under_way : waiting_after subscribed ≡ 0
unfolding varint is_utf8 chars encode
nothing_is_under_way = refl

-- a copy of QoS 0 is due
pub a_copy_is_due_at_once : due_after given ≡ 1
unfolding varint is_utf8 chars encode
a_copy_is_due_at_once = refl

-- and on its way
pub it_is_under_way : waiting_after given ≡ 1
unfolding varint is_utf8 chars encode
it_is_under_way = refl

-- it enters no queue
pub it_enters_no_queue : entered_from usual (turns given) start ≡ []
unfolding varint is_utf8 chars encode
it_enters_no_queue = refl

-- also if the broker stops
pub it_is_due_in_a_stopped_step : due_after stopped ≡ 1
unfolding varint is_utf8 chars encode
it_is_due_in_a_stopped_step = refl

-- but then it is not sent
pub a_stop_keeps_it_back : waiting_after stopped ≡ 0
unfolding varint is_utf8 chars encode
a_stop_keeps_it_back = refl

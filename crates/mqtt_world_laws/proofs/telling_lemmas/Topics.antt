-- Each PUBLISH that the broker means in a run has a topic name and no Topic Alias (MQTT 5.0, 3.3.2.1, 3.3.2.3.4).
use Rattle.std.specs.Prelude.{List}
use Rattle.mqtt_rules.specs.declared.step.Capacity.{Capacity}
use Rattle.mqtt_world_model.specs.model.Run.{Turn}
use Rattle.mqtt_world_laws.proofs.granting_lemmas.Runs.{start_topics}
use Rattle.mqtt_world_laws.specs.telling.Likewise.{AllSendTopics}

-- in every run
pub topics_sent : (limits : Capacity) (ts : List Turn) → AllSendTopics limits ts
topics_sent limits ts = start_topics limits ts

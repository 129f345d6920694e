use Rattle.mqtt_world_laws.proofs.telling_lemmas.Runs.{understand}
use Rattle.mqtt_world_laws.proofs.telling_lemmas.Topics.{topics_sent}
use Rattle.mqtt_world_laws.proofs.telling.laws.each_publish_is_understood.Goals as goal

pub returns : goal.returns
returns c = record { each = λ most limits ts. understand most limits ts (topics_sent limits ts) }

use Rattle.mqtt_world_laws.proofs.telling_lemmas.Handed.{handed}
use Rattle.mqtt_world_laws.proofs.telling_lemmas.Topics.{topics_sent}
use Rattle.mqtt_world_laws.proofs.telling.laws.copies_in_forms_are_handed_over_once.Goals as goal

pub returns : goal.returns
returns c = record { handed = λ most limits ts. handed limits ts most (topics_sent limits ts) }

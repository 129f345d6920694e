use Rattle.mqtt_world.proofs.reopening_lemmas.Named.{left_named}
use Rattle.mqtt_world.proofs.reopening.laws.what_a_broker_left_names_its_topics.Goals as goal

pub returns : goal.returns
returns c = record { named = left_named }

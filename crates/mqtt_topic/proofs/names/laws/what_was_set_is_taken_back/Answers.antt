use Rattle.mqtt_topic.proofs.names_lemmas.AliasLemmas.{restored-with_topic}
use Rattle.mqtt_topic.proofs.names.laws.what_was_set_is_taken_back.Goals as goal

pub returns : goal.returns
returns c = restored-with_topic

use Rattle.mqtt_topic.proofs.sending_lemmas.FormLemmas.{taken_back}
use Rattle.mqtt_topic.proofs.sending.laws.what_was_told_is_taken_back.Goals as goal

pub returns : goal.returns
returns c = taken_back

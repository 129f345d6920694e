use Rattle.mqtt_topic.proofs.sending_lemmas.FormLemmas.{what_goes_out}
use Rattle.mqtt_topic.proofs.sending.laws.what_goes_out_means_its_topic.Goals as goal

pub returns : goal.returns
returns c = what_goes_out

use Rattle.mqtt_topic.proofs.sending_lemmas.AgreeLemmas.{agree}
use Rattle.mqtt_topic.proofs.sending.laws.aliases_agree.Goals as goal

pub returns : goal.returns
returns c = agree

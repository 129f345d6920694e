use Rattle.mqtt_rules.proofs.fitting_lemmas.Offers.{offered}
use Rattle.mqtt_rules.proofs.fitting.laws.a_whole_copy_is_offered_by_its_whole_topic.Goals as goal

pub returns : goal.returns
returns c = offered

use Rattle.mqtt_rules.proofs.fitting_lemmas.WholeCopies.{whole_pumps}
use Rattle.mqtt_rules.proofs.fitting.laws.a_pump_of_whole_copies_goes_by_whole_topics.Goals as goal

pub returns : goal.returns
returns c = whole_pumps

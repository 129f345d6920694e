use Rattle.mqtt_rules.proofs.filling_lemmas.Fetching.{filled_alike, filled_pump_tells}
use Rattle.mqtt_rules.proofs.filling_lemmas.FewSent.{few_sent}
use Rattle.mqtt_rules.proofs.filling_lemmas.Pumps.{places_same}
use Rattle.mqtt_rules.proofs.filling_lemmas.SlimAgain.{slim_again}
use Rattle.mqtt_rules.proofs.filling.filling_laws.a_pump_reads_what_it_sends.Goals as goal

pub returns-clause-places : goal.returns-clause-places
returns-clause-places c = places_same

pub returns-clause-few : goal.returns-clause-few
returns-clause-few c = few_sent

pub returns-clause-alike : goal.returns-clause-alike
returns-clause-alike c = filled_alike

pub returns-clause-told : goal.returns-clause-told
returns-clause-told c = λ limits choice now line fillings. filled_pump_tells fillings now line limits choice

pub returns-clause-slim : goal.returns-clause-slim
returns-clause-slim c = slim_again

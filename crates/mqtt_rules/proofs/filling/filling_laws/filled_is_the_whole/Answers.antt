use Rattle.mqtt_rules.proofs.alike_lemmas.SlimRows.{slim_alike}
use Rattle.mqtt_rules.specs.alike.Slim.{slim_broker}
use Rattle.mqtt_rules.proofs.filling_lemmas.Equivalence.{broker_back}
use Rattle.mqtt_rules.proofs.filling_lemmas.Filled.{broker_whole, records_whole, records_say}
use Rattle.mqtt_rules.proofs.filling.filling_laws.filled_is_the_whole.Goals as goal

pub returns-clause-broker : goal.returns-clause-broker
returns-clause-broker c = broker_whole

pub returns-clause-records : goal.returns-clause-records
returns-clause-records c = records_whole

pub returns-clause-slim : goal.returns-clause-slim
returns-clause-slim c = λ fillings b k. broker_whole fillings (slim_broker b) b (broker_back b (slim_broker b) (slim_alike b)) k

pub returns-clause-says : goal.returns-clause-says
returns-clause-says c = records_say

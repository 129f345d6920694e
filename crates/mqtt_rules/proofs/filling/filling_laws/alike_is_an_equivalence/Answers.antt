use Rattle.mqtt_rules.proofs.filling_lemmas.Equivalence.{broker_itself, broker_back, broker_through, slim_through}
use Rattle.mqtt_rules.proofs.filling_lemmas.SlimAgain.{broker_once}
use Rattle.mqtt_rules.proofs.filling.filling_laws.alike_is_an_equivalence.Goals as goal

pub returns-clause-itself : goal.returns-clause-itself
returns-clause-itself c = broker_itself

pub returns-clause-back : goal.returns-clause-back
returns-clause-back c = broker_back

pub returns-clause-through : goal.returns-clause-through
returns-clause-through c = broker_through

pub returns-clause-slim : goal.returns-clause-slim
returns-clause-slim c = slim_through

pub returns-clause-again : goal.returns-clause-again
returns-clause-again c = broker_once

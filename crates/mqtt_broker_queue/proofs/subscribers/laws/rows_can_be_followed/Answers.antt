use Rattle.mqtt_broker_queue.proofs.subscribers_lemmas.Followed.{deeds_followed, step_followed, opening_followed, indexed_of, indexed_lawful}
use Rattle.mqtt_broker_queue.proofs.subscribers_lemmas.Along.{indexed_all}
use Rattle.mqtt_broker_queue.proofs.subscribers.laws.rows_can_be_followed.Goals as goal

pub returns-clause-deeds : goal.returns-clause-deeds
returns-clause-deeds c = deeds_followed

pub returns-clause-step : goal.returns-clause-step
returns-clause-step c = step_followed

pub returns-clause-opening : goal.returns-clause-opening
returns-clause-opening c = opening_followed

pub returns-clause-changed : goal.returns-clause-changed
returns-clause-changed c = indexed_all

pub returns-clause-indexed : goal.returns-clause-indexed
returns-clause-indexed c = indexed_of

pub returns-clause-lawful : goal.returns-clause-lawful
returns-clause-lawful c = indexed_lawful

-- By the laws of the tables.
use Rattle.mqtt_world_laws.proofs.receiver_lemmas.connects.Stopping.{opening_tidy, step_tidy}
use Rattle.mqtt_world_laws.proofs.receiver.restart_laws.a_tidy_broker_stays_tidy.Goals as goal

pub returns-clause-steps : goal.returns-clause-steps
returns-clause-steps c = step_tidy

pub returns-clause-opens : goal.returns-clause-opens
returns-clause-opens c = opening_tidy

-- What a publisher sees of each call, wherever it is.
use Rattle.mqtt_world_model.proofs.model_lemmas.own.Calls.{others_come, reads_own, reads_old, loses, restarts_come}
use Rattle.mqtt_world_model.proofs.model.seat_laws.every_call_is_some_steps_of_the_hop.Goals as goal

pub returns-clause-others : goal.returns-clause-others
returns-clause-others c = others_come

pub returns-clause-reads : goal.returns-clause-reads
returns-clause-reads c = reads_own

pub returns-clause-reads_old : goal.returns-clause-reads_old
returns-clause-reads_old c = reads_old

pub returns-clause-loses : goal.returns-clause-loses
returns-clause-loses c = loses

pub returns-clause-restarts : goal.returns-clause-restarts
returns-clause-restarts c = restarts_come

-- What the publisher sees of a restart: session by session.
use Rattle.mqtt_world_model.proofs.model_lemmas.connects.Restarts.{restart_is_hop, restart_owns}
use Rattle.mqtt_world_model.proofs.model_lemmas.connects.EmptyRestarts.{empty_restart_is_hop}
use Rattle.mqtt_world_model.proofs.model.laws.a_restart_is_a_step_of_the_hop.Goals as goal

pub returns-clause-restarts : goal.returns-clause-restarts
returns-clause-restarts c = restart_is_hop

pub returns-clause-without : goal.returns-clause-without
returns-clause-without c = empty_restart_is_hop

pub returns-clause-own : goal.returns-clause-own
returns-clause-own c = restart_owns

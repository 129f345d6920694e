-- The call, and then the restart.
use Rattle.mqtt_world_laws.proofs.receiver_lemmas.connects.Stopping.{own_stop_goes_on, receivers_after, stopped_goes_on}
use Rattle.mqtt_world_laws.proofs.receiver.restart_laws.a_stop_after_the_commit_is_a_step_of_the_receivers_hop.Goals as goal

pub returns-clause-receivers : goal.returns-clause-receivers
returns-clause-receivers c = receivers_after

pub returns-clause-others : goal.returns-clause-others
returns-clause-others c = stopped_goes_on

pub returns-clause-own : goal.returns-clause-own
returns-clause-own c = own_stop_goes_on

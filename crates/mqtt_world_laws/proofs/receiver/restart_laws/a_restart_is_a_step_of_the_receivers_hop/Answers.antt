-- By a walk over what the opening does.
use Rattle.mqtt_world_laws.proofs.receiver_lemmas.connects.Restarting.{lost_lines, restart_goes_on, restart_without}
use Rattle.mqtt_world_laws.proofs.receiver.restart_laws.a_restart_is_a_step_of_the_receivers_hop.Goals as goal

pub returns-clause-restarts : goal.returns-clause-restarts
returns-clause-restarts c = restart_goes_on

pub returns-clause-lines : goal.returns-clause-lines
returns-clause-lines c = lost_lines

pub returns-clause-without : goal.returns-clause-without
returns-clause-without c = restart_without

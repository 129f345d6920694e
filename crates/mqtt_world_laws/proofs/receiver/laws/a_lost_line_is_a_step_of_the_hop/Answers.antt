-- By the deeds of a line that is lost.
use Rattle.mqtt_world_laws.proofs.receiver_lemmas.own.Losing.{losing_runs}
use Rattle.mqtt_world_laws.proofs.receiver.laws.a_lost_line_is_a_step_of_the_hop.Goals as goal

pub returns : goal.returns
returns c = record { loses = losing_runs }

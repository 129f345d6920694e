-- By its only deed.
use Rattle.mqtt_world_laws.proofs.receiver_lemmas.others.LateConnect.{late_goes_on}
use Rattle.mqtt_world_laws.proofs.receiver.served_laws.a_late_connect_is_a_step_of_the_hop.Goals as goal

pub returns : goal.returns
returns c = record { closes = late_goes_on }

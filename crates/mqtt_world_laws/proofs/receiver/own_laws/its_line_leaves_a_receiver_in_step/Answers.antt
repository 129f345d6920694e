-- By the deeds of a pump and of a lost line.
use Rattle.mqtt_world_laws.proofs.receiver_lemmas.own.OwnCalls.{loss_in_step, pump_in_step}
use Rattle.mqtt_world_laws.proofs.receiver.own_laws.its_line_leaves_a_receiver_in_step.Goals as goal

pub returns : goal.returns
returns c = record { sends = pump_in_step; loses = loss_in_step }

-- By the deeds of such a call: none, or that the line goes.
use Rattle.mqtt_world_laws.proofs.receiver_lemmas.others.IdleLines.{idle_loss_awaiting, idle_loss_in_step, idle_pump_awaiting, idle_pump_in_step}
use Rattle.mqtt_world_laws.proofs.receiver.late_laws.a_line_without_session_leaves_a_receiver_as_it_is.Goals as goal

pub returns : goal.returns
returns c = record { sends = idle_pump_in_step; loses = idle_loss_in_step; sends_awaiting = idle_pump_awaiting; loses_awaiting = idle_loss_awaiting }

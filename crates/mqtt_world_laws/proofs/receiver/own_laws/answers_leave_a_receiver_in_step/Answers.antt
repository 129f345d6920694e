-- By the deeds of each answer.
use Rattle.mqtt_world_laws.proofs.receiver_lemmas.own.OwnCalls.{answers_in_step, old_answers_in_step}
use Rattle.mqtt_world_laws.proofs.receiver.own_laws.answers_leave_a_receiver_in_step.Goals as goal

pub returns : goal.returns
returns c = record { answers = answers_in_step; old_answers = old_answers_in_step }

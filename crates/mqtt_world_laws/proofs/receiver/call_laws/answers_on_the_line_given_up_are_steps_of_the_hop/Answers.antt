-- By what the session's rules answer.
use Rattle.mqtt_world_laws.proofs.receiver_lemmas.own.OldAnswers.{old_answers_run}
use Rattle.mqtt_world_laws.proofs.receiver.call_laws.answers_on_the_line_given_up_are_steps_of_the_hop.Goals as goal

pub returns : goal.returns
returns c = record { answers = old_answers_run }

-- By what the session's rules answer.
use Rattle.mqtt_world_laws.proofs.receiver_lemmas.own.Answering.{answers_run}
use Rattle.mqtt_world_laws.proofs.receiver.laws.answers_of_a_receiver_are_steps_of_the_hop.Goals as goal

pub returns : goal.returns
returns c = record { answers = answers_run }

-- What comes to one event is one turn of it.
use Rattle.mqtt_world.proofs.script_laws_lemmas.OneTurn.{answers_once, reads_once, sends_once}
use Rattle.mqtt_world.proofs.script_laws.drain_laws.what_a_drain_is_made_of_is_turns.Goals as goal

pub returns-clause-sends : goal.returns-clause-sends
returns-clause-sends c = sends_once

pub returns-clause-reads : goal.returns-clause-reads
returns-clause-reads c = reads_once

pub returns-clause-answers : goal.returns-clause-answers
returns-clause-answers c = answers_once

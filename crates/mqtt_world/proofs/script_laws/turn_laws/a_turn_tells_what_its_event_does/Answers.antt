-- Event by event.
use Rattle.mqtt_world.proofs.script_laws_lemmas.Single.{turn_tells}
use Rattle.mqtt_world.proofs.script_laws.turn_laws.a_turn_tells_what_its_event_does.Goals as goal

pub returns : goal.returns
returns c = record { tells = turn_tells }

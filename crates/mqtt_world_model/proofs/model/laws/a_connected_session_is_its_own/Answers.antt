-- Whose the session and the line are after a CONNECT, by what is found of them.
use Rattle.mqtt_world_model.proofs.model_lemmas.seats.Breaks.{break_owns}
use Rattle.mqtt_world_model.proofs.model_lemmas.connects.Connects.{connect_owns}
use Rattle.mqtt_world_model.proofs.model_lemmas.connects.CleanConnects.{clean_owns}
use Rattle.mqtt_world_model.proofs.model_lemmas.connects.FirstConnects.{first_owns}
use Rattle.mqtt_world_model.proofs.model.laws.a_connected_session_is_its_own.Goals as goal

pub returns-clause-resumed : goal.returns-clause-resumed
returns-clause-resumed c = connect_owns

pub returns-clause-anew : goal.returns-clause-anew
returns-clause-anew c = clean_owns

pub returns-clause-first : goal.returns-clause-first
returns-clause-first c = first_owns

pub returns-clause-lost : goal.returns-clause-lost
returns-clause-lost c = break_owns

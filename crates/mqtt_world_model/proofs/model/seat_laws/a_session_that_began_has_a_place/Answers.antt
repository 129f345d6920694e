-- No deed but a session's beginning brings a session, and it finds a place.
use Rattle.mqtt_world_model.proofs.model_lemmas.seats.Places.{no_place_asked, opening_place, step_place}
use Rattle.mqtt_world_model.proofs.model.seat_laws.a_session_that_began_has_a_place.Goals as goal

pub returns-clause-steps : goal.returns-clause-steps
returns-clause-steps c = step_place

pub returns-clause-opens : goal.returns-clause-opens
returns-clause-opens c = opening_place

pub returns-clause-begins : goal.returns-clause-begins
returns-clause-begins c = no_place_asked

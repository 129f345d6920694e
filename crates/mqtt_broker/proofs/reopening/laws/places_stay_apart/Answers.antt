use Rattle.mqtt_broker.proofs.reopening_lemmas.PlacesKept.{nothing_places, step_places, opening_places}
use Rattle.mqtt_broker.proofs.reopening.laws.places_stay_apart.Goals as goal

pub returns-clause-nothing : goal.returns-clause-nothing
returns-clause-nothing c = nothing_places

pub returns-clause-step : goal.returns-clause-step
returns-clause-step c = step_places

pub returns-clause-opening : goal.returns-clause-opening
returns-clause-opening c = opening_places

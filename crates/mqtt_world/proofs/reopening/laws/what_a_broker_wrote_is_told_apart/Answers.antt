-- By the rules that records are opened by.
use Rattle.mqtt_broker_acts.proofs.calls_lemmas.Flights.{lawful_flight}
use Rattle.mqtt_world.proofs.reopening_lemmas.Begun.{retained_once}
use Rattle.mqtt_world.proofs.reopening.laws.what_a_broker_wrote_is_told_apart.Goals as goal

pub returns-clause-identifiers : goal.returns-clause-identifiers
returns-clause-identifiers c = lawful_flight

pub returns-clause-retained : goal.returns-clause-retained
returns-clause-retained c = retained_once

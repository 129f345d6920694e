use Rattle.mqtt_broker.proofs.reopening_lemmas.NamesKept.{step_names, opening_names}
use Rattle.mqtt_broker.proofs.reopening.laws.client_identifiers_stay_lawful.Goals as goal

pub returns-clause-nothing : goal.returns-clause-nothing
returns-clause-nothing c = record { assigned = tt; short = λ le. tt }

pub returns-clause-step : goal.returns-clause-step
returns-clause-step c = step_names

pub returns-clause-opening : goal.returns-clause-opening
returns-clause-opening c = opening_names

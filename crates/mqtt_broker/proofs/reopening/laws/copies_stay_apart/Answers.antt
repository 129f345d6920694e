use Rattle.mqtt_rules.proofs.step_lemmas.order.Ordered.{nothing-ordered}
use Rattle.mqtt_broker.proofs.reopening_lemmas.CopiesActs.{step_identities, opening_identities}
use Rattle.mqtt_broker.proofs.reopening.laws.copies_stay_apart.Goals as goal

pub returns-clause-nothing : goal.returns-clause-nothing
returns-clause-nothing c = record { ordered = nothing-ordered; sessions = tt; retained = tt; differ = tt }

pub returns-clause-step : goal.returns-clause-step
returns-clause-step c = step_identities

pub returns-clause-opening : goal.returns-clause-opening
returns-clause-opening c = opening_identities

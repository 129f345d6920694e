use Rattle.mqtt_rules.proofs.step_lemmas.numbers.NumberCopies.{step_accepted, opening_accepted}
use Rattle.mqtt_rules.proofs.step.number_laws.copies_are_of_accepted_publications.Goals as goal

pub returns-clause-step : goal.returns-clause-step
returns-clause-step c = step_accepted

pub returns-clause-opening : goal.returns-clause-opening
returns-clause-opening c = opening_accepted

pub returns-clause-nothing : goal.returns-clause-nothing
returns-clause-nothing c = (tt, tt)

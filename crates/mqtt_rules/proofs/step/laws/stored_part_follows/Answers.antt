use Rattle.mqtt_rules.specs.step.Step.{deeds, at_moment, env_of, opening, unopened}
use Rattle.mqtt_rules.proofs.step_lemmas.fit.StoredLaw.{rows_store, without_row}
use Rattle.mqtt_rules.proofs.step.laws.stored_part_follows.Goals as goal

pub returns-clause-step : goal.returns-clause-step
returns-clause-step c = λ limits choice now call b. rows_store (deeds limits choice now call b) (at_moment now b)

pub returns-clause-opening : goal.returns-clause-opening
returns-clause-opening c = λ limits choice now r. rows_store (opening (env_of limits choice (unopened now r)) (unopened now r)) (unopened now r)

pub returns-clause-without_row : goal.returns-clause-without_row
returns-clause-without_row c = without_row

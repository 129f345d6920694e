use Rattle.mqtt_rules.proofs.alike_lemmas.Steps.{written_same, spent_same}
use Rattle.mqtt_rules.proofs.filling_lemmas.Steps.{step_whole, step_stored, opened_whole, opening_written, opening_stored, opening_spent}
use Rattle.mqtt_rules.proofs.filling.filling_laws.steps_on_slim_rows_are_steps.Goals as goal

pub returns-clause-states : goal.returns-clause-states
returns-clause-states c = step_whole

pub returns-clause-written : goal.returns-clause-written
returns-clause-written c = written_same

pub returns-clause-stored : goal.returns-clause-stored
returns-clause-stored c = step_stored

pub returns-clause-spent : goal.returns-clause-spent
returns-clause-spent c = spent_same

pub returns-clause-opened : goal.returns-clause-opened
returns-clause-opened c = opened_whole

pub returns-clause-opening_written : goal.returns-clause-opening_written
returns-clause-opening_written c = opening_written

pub returns-clause-opening_stored : goal.returns-clause-opening_stored
returns-clause-opening_stored c = opening_stored

pub returns-clause-opening_spent : goal.returns-clause-opening_spent
returns-clause-opening_spent c = opening_spent

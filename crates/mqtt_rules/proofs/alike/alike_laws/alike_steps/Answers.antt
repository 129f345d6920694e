use Rattle.mqtt_rules.proofs.alike_lemmas.Steps.{step_alike, deeds_alike, told_alike, written_same, spent_same, opened_alike, run_alike}
use Rattle.mqtt_rules.proofs.alike.alike_laws.alike_steps.Goals as goal

pub returns-clause-states : goal.returns-clause-states
returns-clause-states c = step_alike

pub returns-clause-deeds : goal.returns-clause-deeds
returns-clause-deeds c = deeds_alike

pub returns-clause-told : goal.returns-clause-told
returns-clause-told c = told_alike

pub returns-clause-written : goal.returns-clause-written
returns-clause-written c = written_same

pub returns-clause-spent : goal.returns-clause-spent
returns-clause-spent c = spent_same

pub returns-clause-opened : goal.returns-clause-opened
returns-clause-opened c = opened_alike

pub returns-clause-run : goal.returns-clause-run
returns-clause-run c = run_alike

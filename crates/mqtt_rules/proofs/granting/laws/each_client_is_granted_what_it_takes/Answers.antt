use Rattle.mqtt_rules.proofs.granting_lemmas.Steps.{opening_grants_none, step_grants, step_grants_none}
use Rattle.mqtt_rules.proofs.granting.laws.each_client_is_granted_what_it_takes.Goals as goal

pub returns-clause-within : goal.returns-clause-within
returns-clause-within c = λ limits choice now n most call b. step_grants limits choice now n most call b

pub returns-clause-none : goal.returns-clause-none
returns-clause-none c = λ limits choice now n call b. step_grants_none limits choice now n call b

pub returns-clause-opening : goal.returns-clause-opening
returns-clause-opening c = λ limits choice now n r. opening_grants_none limits choice now n r

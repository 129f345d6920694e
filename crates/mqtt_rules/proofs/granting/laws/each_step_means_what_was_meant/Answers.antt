use Rattle.mqtt_rules.proofs.granting_lemmas.Steps.{step_knows, step_means}
use Rattle.mqtt_rules.proofs.granting.laws.each_step_means_what_was_meant.Goals as goal

pub returns-clause-means : goal.returns-clause-means
returns-clause-means c = λ limits choice now n table call b. step_means limits choice now n table call b

pub returns-clause-knows : goal.returns-clause-knows
returns-clause-knows c = λ limits choice now n table call b. step_knows limits choice now n table call b

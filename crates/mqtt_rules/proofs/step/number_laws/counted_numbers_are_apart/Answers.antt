use Rattle.mqtt_rules.proofs.step_lemmas.numbers.NumberSteps.{counts_above, counts_ascend, counts_many}
use Rattle.mqtt_rules.proofs.step.number_laws.counted_numbers_are_apart.Goals as goal

pub returns-clause-above : goal.returns-clause-above
returns-clause-above c = counts_above

pub returns-clause-apart : goal.returns-clause-apart
returns-clause-apart c = counts_ascend

pub returns-clause-many : goal.returns-clause-many
returns-clause-many c = counts_many

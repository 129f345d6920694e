use Rattle.mqtt_rules.proofs.step_lemmas.forms.FormSizes.{form_by_sizes, copy_by_sizes}
use Rattle.mqtt_rules.proofs.step.form_laws.forms_are_found_by_size.Goals as goal

pub returns-clause-packet : goal.returns-clause-packet
returns-clause-packet c = form_by_sizes

pub returns-clause-copy : goal.returns-clause-copy
returns-clause-copy c = copy_by_sizes

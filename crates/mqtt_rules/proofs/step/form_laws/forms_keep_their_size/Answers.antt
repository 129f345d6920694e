use Rattle.mqtt_rules.proofs.step_lemmas.forms.FormSizes.{copy_in_form, plain_copy}
use Rattle.mqtt_rules.proofs.step.form_laws.forms_keep_their_size.Goals as goal

pub returns-clause-size : goal.returns-clause-size
returns-clause-size c = copy_in_form

pub returns-clause-plain : goal.returns-clause-plain
returns-clause-plain c = plain_copy

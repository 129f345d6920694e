use Rattle.mqtt_rules.proofs.step_lemmas.forms.FormBlocks.{alias_between}
use Rattle.mqtt_rules.proofs.step.form_laws.alias_stands_behind_identifiers.Goals as goal

pub returns : goal.returns
returns c = alias_between

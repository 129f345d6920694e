use Rattle.mqtt_rules.proofs.whole_lemmas.WholePumps.{pump_fits, whole_pump}
use Rattle.mqtt_rules.proofs.whole.laws.a_pump_in_forms_is_a_pump.Goals as goal

pub returns-clause-forms : goal.returns-clause-forms
returns-clause-forms c = whole_pump

pub returns-clause-sizes : goal.returns-clause-sizes
returns-clause-sizes c = pump_fits

use Rattle.mqtt_rules.proofs.fitting_lemmas.Decided.{decided}
use Rattle.mqtt_rules.proofs.fitting.laws.only_what_has_no_form_is_too_large.Goals as goal

pub returns : goal.returns
returns c = decided

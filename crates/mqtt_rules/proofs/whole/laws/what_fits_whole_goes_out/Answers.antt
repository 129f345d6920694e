use Rattle.mqtt_rules.proofs.whole_lemmas.WholeForms.{goes_out, told_fits}
use Rattle.mqtt_rules.proofs.whole.laws.what_fits_whole_goes_out.Goals as goal

pub returns-clause-goes_out : goal.returns-clause-goes_out
returns-clause-goes_out c = goes_out

pub returns-clause-within : goal.returns-clause-within
returns-clause-within c = told_fits

use Rattle.mqtt_rules.proofs.telling_lemmas.Plainly.{goes_out_plainly, stays_untold}
use Rattle.mqtt_rules.proofs.telling.laws.who_takes_no_alias_is_told_none.Goals as goal

pub returns-clause-out : goal.returns-clause-out
returns-clause-out c = goes_out_plainly

pub returns-clause-told : goal.returns-clause-told
returns-clause-told c = stays_untold

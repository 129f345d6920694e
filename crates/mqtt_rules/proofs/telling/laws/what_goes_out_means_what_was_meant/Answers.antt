use Rattle.mqtt_rules.proofs.telling_lemmas.Deeds.{means, knows}
use Rattle.mqtt_rules.proofs.telling.laws.what_goes_out_means_what_was_meant.Goals as goal

pub returns-clause-means : goal.returns-clause-means
returns-clause-means c = means

pub returns-clause-knows : goal.returns-clause-knows
returns-clause-knows c = knows

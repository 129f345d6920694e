use Rattle.mqtt_rules.proofs.fitting_lemmas.Untold.{plain_offers, plain_pumps}
use Rattle.mqtt_rules.proofs.fitting.laws.who_was_told_nothing_is_sent_whole_topics.Goals as goal

pub returns : goal.returns
returns c = record { pumps = plain_pumps; offers = plain_offers }

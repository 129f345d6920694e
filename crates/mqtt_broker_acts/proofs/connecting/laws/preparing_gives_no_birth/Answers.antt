use Rattle.mqtt_broker_acts.proofs.connecting_lemmas.Fewer.{births_stay_given}
use Rattle.mqtt_broker_acts.proofs.connecting.laws.preparing_gives_no_birth.Goals as goal

pub returns : goal.returns
returns c = births_stay_given

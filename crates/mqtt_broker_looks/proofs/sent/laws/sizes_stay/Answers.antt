use Rattle.mqtt_broker_looks.proofs.sent_lemmas.Spelled.{size_stays}
use Rattle.mqtt_broker_looks.proofs.sent.laws.sizes_stay.Goals as goal

pub returns : goal.returns
returns c = size_stays

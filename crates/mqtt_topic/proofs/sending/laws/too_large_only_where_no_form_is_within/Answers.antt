use Rattle.mqtt_topic.specs.sending.Told.{forms}
use Rattle.mqtt_topic.proofs.sending_lemmas.FormLemmas.{is_first}
use Rattle.mqtt_topic.proofs.sending.laws.too_large_only_where_no_form_is_within.Goals as goal

pub returns : goal.returns
returns c = λ largest told topic other. is_first largest topic other (forms told topic)

use Rattle.mqtt_broker_looks.proofs.sent_lemmas.Spelled.{told_plain}
use Rattle.mqtt_broker_looks.proofs.sent.copies.has_spelling.Goals as goal

pub returns : goal.returns
returns c = told_plain c.is_some.result c.lengths_in.result c.args.copy.now c.is_some.ensures c.lengths_in.ensures

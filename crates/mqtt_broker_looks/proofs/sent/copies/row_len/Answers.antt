use Rattle.std.proofs.Common.{◌∙◌}
use Rattle.mqtt_broker_looks.proofs.sent_lemmas.Spelled.{size_stays}
use Rattle.mqtt_broker_looks.proofs.sent.copies.row_len.Goals as goal

pub returns : goal.returns
returns c = λ now id dup. c.size.ensures.exact ∙ size_stays c.args.row.now.copy now id dup

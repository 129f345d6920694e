use Rattle.mqtt_records.proofs.lists_lemmas.OrderLemmas.{last-read}
use Rattle.mqtt_records.proofs.lists.rows.Rows.last.Goals as goal

pub returns : goal.returns
returns g c = rw (c.last.ensures.value, c.as_slice.ensures.rows) (last-read g.R.Row.key_of c.args.self.now)

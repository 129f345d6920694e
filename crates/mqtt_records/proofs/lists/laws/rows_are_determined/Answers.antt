use Rattle.mqtt_records.proofs.lists_lemmas.LookUps.{same_rows}
use Rattle.mqtt_records.proofs.lists.laws.rows_are_determined.Goals as goal

pub returns : goal.returns
returns g c = same_rows g.R.Row.key_of

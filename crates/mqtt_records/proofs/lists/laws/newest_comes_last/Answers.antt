use Rattle.mqtt_records.proofs.lists_lemmas.LookUps.{put_row-last}
use Rattle.mqtt_records.proofs.lists.laws.newest_comes_last.Goals as goal

pub returns : goal.returns
returns g c = put_row-last g.R.Row.key_of

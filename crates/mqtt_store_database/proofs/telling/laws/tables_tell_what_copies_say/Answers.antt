use Rattle.mqtt_store_database.proofs.telling_lemmas.Tells.{rows_tell}
use Rattle.mqtt_store_database.proofs.telling.laws.tables_tell_what_copies_say.Goals as goal

pub returns : goal.returns
returns c making db r k = rows_tell making db r k

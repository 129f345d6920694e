use Rattle.mqtt_store_database.proofs.row_laws_lemmas.tables.Told.{rows_share}
use Rattle.mqtt_store_database.proofs.row_laws.contents.rows_share_contents.Goals as goal

pub returns : goal.returns
returns c making db r sayable shaped written = rows_share making db r sayable shaped written

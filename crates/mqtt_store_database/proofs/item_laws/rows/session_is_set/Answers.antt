use Rattle.mqtt_store_database.proofs.item_laws_lemmas.records.Owns.{columns_set_new, columns_set_old, any_some}
use Rattle.mqtt_store_database.proofs.item_laws.rows.session_is_set.Goals as goal

pub returns-clause-new : goal.returns-clause-new
returns-clause-new c row columns r up it = columns_set_new row r up columns it

pub returns-clause-old : goal.returns-clause-old
returns-clause-old c row columns r up fits it = columns_set_old row r up (any_some _ _ fits.0) columns it

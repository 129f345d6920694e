use Rattle.mqtt_store_database.proofs.item_laws_lemmas.records.Owns.{columns_put_new, columns_put_old}
use Rattle.mqtt_store_database.proofs.item_laws.rows.session_is_put.Goals as goal

pub returns-clause-new : goal.returns-clause-new
returns-clause-new c row columns r up fits it = columns_put_new row r up fits.0 columns it

pub returns-clause-old : goal.returns-clause-old
returns-clause-old c row columns r up fits it = columns_put_old row r up fits.0 columns it

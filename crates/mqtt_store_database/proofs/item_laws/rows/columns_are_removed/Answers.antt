use Rattle.mqtt_store_database.proofs.item_laws_lemmas.records.Owns.{columns_out_new, columns_out_old}
use Rattle.mqtt_store_database.proofs.item_laws.rows.columns_are_removed.Goals as goal

pub returns-clause-new : goal.returns-clause-new
returns-clause-new c birth columns r it = columns_out_new birth r columns it

pub returns-clause-old : goal.returns-clause-old
returns-clause-old c birth columns r it = columns_out_old birth r columns it

use Rattle.mqtt_store_database.proofs.item_laws_lemmas.records.Owns.{retained_out_new, retained_out_old}
use Rattle.mqtt_store_database.proofs.item_laws.rows.retained_is_removed.Goals as goal

pub returns-clause-new : goal.returns-clause-new
returns-clause-new c place x r it = retained_out_new place r x it

pub returns-clause-old : goal.returns-clause-old
returns-clause-old c place x r it = retained_out_old place r x it

use Rattle.mqtt_store_database.proofs.item_laws_lemmas.records.Owns.{retained_new, retained_old}
use Rattle.mqtt_store_database.proofs.item_laws.rows.retained_is_put.Goals as goal

pub returns-clause-new : goal.returns-clause-new
returns-clause-new c kept x r up fits it = retained_new kept r fits.0 up x it

pub returns-clause-old : goal.returns-clause-old
returns-clause-old c kept x r up fits it = retained_old kept r fits.0 up x it

use Rattle.mqtt_store_database.proofs.taking_over_lemmas.found.Alike.{alike}
use Rattle.mqtt_store_database.proofs.taking_over_lemmas.found.Kept.{kept_distinct}
use Rattle.mqtt_store_database.proofs.taking_over.found.rows_are_of_one.Goals as goal

pub returns : goal.returns
returns c db q r h k = alike db q r (kept_distinct db q h) (kept_distinct db r k)

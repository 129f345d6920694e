use Rattle.mqtt_store_database.proofs.found_lemmas.Alike.{alike}
use Rattle.mqtt_store_database.proofs.found_lemmas.Kept.{kept_distinct}
use Rattle.mqtt_store_database.proofs.found.laws.rows_of_second_are_of_one.Goals as goal

pub returns : goal.returns
returns c making db q r h k = alike making db q r (kept_distinct making db q h) (kept_distinct making db r k)

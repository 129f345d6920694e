use Rattle.mqtt_store_database.proofs.taking_over_lemmas.found.Alike.{alike}
use Rattle.mqtt_store_database.proofs.taking_over_lemmas.found.Found.{found_distinct}
use Rattle.mqtt_store_database.proofs.taking_over_lemmas.found.Kept.{kept_distinct}
use Rattle.mqtt_store_database.proofs.taking_over.found.kept_is_found.Goals as goal

pub returns : goal.returns
returns c db q r h k = alike db q r (found_distinct db q h) (kept_distinct db r k)

use Rattle.mqtt_store_database.proofs.taking_over_lemmas.Unique.{records_one}
use Rattle.mqtt_store_database.proofs.taking_over.laws.database_has_one.Goals as goal

pub returns : goal.returns
returns c db q r h k = records_one db q r h k

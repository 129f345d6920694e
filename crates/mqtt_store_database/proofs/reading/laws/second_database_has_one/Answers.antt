use Rattle.mqtt_store_database.proofs.reading_lemmas.Unique.{records_one}
use Rattle.mqtt_store_database.proofs.reading.laws.second_database_has_one.Goals as goal

pub returns : goal.returns
returns c making db q r h k = records_one making db q r h k

use Rattle.mqtt_store_database.proofs.loading_lemmas.One.{kept_once}
use Rattle.mqtt_store_database.proofs.loading.laws.database_keeps_one.Goals as goal

pub returns : goal.returns
returns c db q r keeps other = kept_once db q r keeps other

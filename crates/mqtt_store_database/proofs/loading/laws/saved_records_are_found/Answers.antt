use Rattle.mqtt_store_database.proofs.loading_lemmas.One.{saved_once}
use Rattle.mqtt_store_database.proofs.loading.laws.saved_records_are_found.Goals as goal

pub returns : goal.returns
returns c db q r finds saves = saved_once db q r finds saves

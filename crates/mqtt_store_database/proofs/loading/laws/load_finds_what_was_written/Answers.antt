use Rattle.mqtt_store_database.proofs.loading_lemmas.One.{has_kept}
use Rattle.mqtt_store_database.proofs.loading.laws.load_finds_what_was_written.Goals as goal

pub returns : goal.returns
returns c db q r has keeps = has_kept db q r has keeps

use Rattle.mqtt_store_database.proofs.found_lemmas.Found.{found_distinct}
use Rattle.mqtt_store_database.proofs.found_lemmas.Kept.{distinct_kept}
use Rattle.mqtt_store_database.proofs.found.laws.found_in_second_is_kept.Goals as goal

pub returns : goal.returns
returns c making db q obeys order h = distinct_kept making db obeys order q h.listed.old (found_distinct making db q h)

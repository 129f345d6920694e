use Rattle.mqtt_store_database.proofs.taking_over_lemmas.found.Found.{found_distinct}
use Rattle.mqtt_store_database.proofs.taking_over_lemmas.found.Kept.{distinct_kept}
use Rattle.mqtt_store_database.proofs.taking_over.found.found_is_kept.Goals as goal

pub returns : goal.returns
returns c db q obeys order h = distinct_kept db obeys order q (found_distinct db q h)

use Rattle.mqtt_store_database.proofs.taking_over_lemmas.found.Found.{found_distinct as found_first}
use Rattle.mqtt_store_database.proofs.taking_over_lemmas.found.Kept.{kept_distinct as kept_first}
use Rattle.mqtt_store_database.proofs.found_lemmas.Alike.{told_apart}
use Rattle.mqtt_store_database.proofs.found_lemmas.Found.{found_distinct}
use Rattle.mqtt_store_database.proofs.found_lemmas.Kept.{kept_distinct}
use Rattle.mqtt_store_database.proofs.found.laws.schemas_are_told_apart.Goals as goal

pub returns-clause-kept : goal.returns-clause-kept
returns-clause-kept c making db q r h k = told_apart making db q r (kept_first db q h) (kept_distinct making db r k)

pub returns-clause-found : goal.returns-clause-found
returns-clause-found c making db q r h k = told_apart making db q r (found_first db q h) (found_distinct making db r k)

pub returns-clause-found_in_first : goal.returns-clause-found_in_first
returns-clause-found_in_first c making db q r h k = told_apart making db q r (found_first db q h) (kept_distinct making db r k)

pub returns-clause-found_in_second : goal.returns-clause-found_in_second
returns-clause-found_in_second c making db q r h k = told_apart making db q r (kept_first db q h) (found_distinct making db r k)

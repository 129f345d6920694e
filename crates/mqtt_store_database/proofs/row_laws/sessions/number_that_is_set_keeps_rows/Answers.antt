use Rattle.mqtt_store_database.proofs.row_laws_lemmas.changes.Numbers.{set_keeps, set_order}
use Rattle.mqtt_store_database.proofs.row_laws.sessions.number_that_is_set_keeps_rows.Goals as goal

pub returns-clause-rows : goal.returns-clause-rows
returns-clause-rows c making counter value n id db next r k o stood sets = set_keeps making db next r k o counter value n id stood sets

pub returns-clause-order : goal.returns-clause-order
returns-clause-order c making counter value n id db next r k o stood sets = set_order making db next r k o counter value n id stood sets

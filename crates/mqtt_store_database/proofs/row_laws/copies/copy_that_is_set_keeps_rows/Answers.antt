use Rattle.mqtt_store_database.proofs.row_laws_lemmas.changes.SetCopy.{set_keeps, set_order}
use Rattle.mqtt_store_database.proofs.row_laws.copies.copy_that_is_set_keeps_rows.Goals as goal

pub returns-clause-rows : goal.returns-clause-rows
returns-clause-rows c making birth place phase db next r k o h = set_keeps making db next r k o birth place phase h

pub returns-clause-order : goal.returns-clause-order
returns-clause-order c making birth place phase db next r k o h = set_order making db next r k o birth place phase h

use Rattle.mqtt_store_database.proofs.row_laws_lemmas.changes.First.{will_removal_keeps, will_removal_order}
use Rattle.mqtt_store_database.proofs.row_laws.sessions.will_that_is_removed_keeps_rows.Goals as goal

pub returns-clause-rows : goal.returns-clause-rows
returns-clause-rows c making birth db next r k o h = will_removal_keeps making db next r k o birth h

pub returns-clause-order : goal.returns-clause-order
returns-clause-order c making birth db next r k o h = will_removal_order making db next r k o birth h

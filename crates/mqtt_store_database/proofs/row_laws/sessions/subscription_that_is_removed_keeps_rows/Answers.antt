use Rattle.mqtt_store_database.proofs.row_laws_lemmas.changes.First.{subscription_removal_keeps, subscription_removal_order}
use Rattle.mqtt_store_database.proofs.row_laws.sessions.subscription_that_is_removed_keeps_rows.Goals as goal

pub returns-clause-rows : goal.returns-clause-rows
returns-clause-rows c making birth text db next r k o h = subscription_removal_keeps making db next r k o birth text h

pub returns-clause-order : goal.returns-clause-order
returns-clause-order c making birth text db next r k o h = subscription_removal_order making db next r k o birth text h

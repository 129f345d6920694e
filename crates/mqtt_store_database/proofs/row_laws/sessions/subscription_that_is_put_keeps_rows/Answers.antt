use Rattle.mqtt_store_database.proofs.row_laws_lemmas.changes.First.{subscription_put_keeps, subscription_put_order}
use Rattle.mqtt_store_database.proofs.row_laws.sessions.subscription_that_is_put_keeps_rows.Goals as goal

pub returns-clause-rows : goal.returns-clause-rows
returns-clause-rows c making birth put db next r k o fits says h = subscription_put_keeps making db next r k o birth put fits says h

pub returns-clause-order : goal.returns-clause-order
returns-clause-order c making birth put db next r k o h = subscription_put_order making db next r k o birth put h

use Rattle.mqtt_store_database.proofs.row_laws_lemmas.changes.First.{open_put_keeps, open_put_order}
use Rattle.mqtt_store_database.proofs.row_laws.sessions.identifier_that_is_put_keeps_rows.Goals as goal

pub returns-clause-rows : goal.returns-clause-rows
returns-clause-rows c making birth n db next r k o fits h = open_put_keeps making db next r k o birth n fits h

pub returns-clause-order : goal.returns-clause-order
returns-clause-order c making birth n db next r k o h = open_put_order making db next r k o birth n h

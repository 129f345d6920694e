use Rattle.mqtt_store_database.proofs.row_laws_lemmas.changes.First.{will_put_keeps, will_put_order}
use Rattle.mqtt_store_database.proofs.row_laws.sessions.will_that_is_put_keeps_rows.Goals as goal

pub returns-clause-rows : goal.returns-clause-rows
returns-clause-rows c making birth will db next r k o fits says h = will_put_keeps making db next r k o birth will fits says h

pub returns-clause-order : goal.returns-clause-order
returns-clause-order c making birth will db next r k o h = will_put_order making db next r k o birth will h

use Rattle.mqtt_store_database.proofs.row_laws_lemmas.changes.RemovedCopy.{removal_keeps, removal_in_order}
use Rattle.mqtt_store_database.proofs.row_laws_lemmas.changes.Dropped.{copy_removed}
use Rattle.mqtt_store_database.proofs.row_laws.copies.copy_that_is_removed_keeps_rows.Goals as goal

pub returns-clause-rows : goal.returns-clause-rows
returns-clause-rows c making birth place db next r k o h = removal_keeps making db next r k o birth place h

pub returns-clause-order : goal.returns-clause-order
returns-clause-order c making birth place db next r k o h = removal_in_order making db next r k o birth place h

pub returns-clause-dropped : goal.returns-clause-dropped
returns-clause-dropped c making birth place db mid next r k o removes drops = copy_removed making db mid next r k o drops birth place removes

use Rattle.mqtt_store_database.proofs.row_laws_lemmas.changes.EndedSession.{ended_keeps, ended_in_order}
use Rattle.mqtt_store_database.proofs.row_laws_lemmas.changes.Dropped.{session_removed}
use Rattle.mqtt_store_database.proofs.row_laws.copies.session_that_is_removed_keeps_rows.Goals as goal

pub returns-clause-rows : goal.returns-clause-rows
returns-clause-rows c making birth db next r k o h = ended_keeps making db next r k o birth h

pub returns-clause-order : goal.returns-clause-order
returns-clause-order c making birth db next r k o h = ended_in_order making db next r k o birth h

pub returns-clause-dropped : goal.returns-clause-dropped
returns-clause-dropped c making birth db mid next r k o ends drops = session_removed making db mid next r k o drops birth ends

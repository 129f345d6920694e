use Rattle.mqtt_store_database.proofs.row_laws_lemmas.changes.Tables.{do_keep}
use Rattle.mqtt_store_database.proofs.row_laws.table_changes.table_changes_keep_rows.Goals as goal

pub returns-clause-rows : goal.returns-clause-rows
returns-clause-rows c making changes them db next r k o fits agrees says are does = (do_keep making changes them db next r k o fits agrees says are does).0

pub returns-clause-order : goal.returns-clause-order
returns-clause-order c making changes them db next r k o fits agrees says are does = (do_keep making changes them db next r k o fits agrees says are does).1

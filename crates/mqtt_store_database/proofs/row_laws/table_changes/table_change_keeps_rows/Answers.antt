use Rattle.mqtt_store_database.proofs.row_laws_lemmas.changes.Tables.{does_keep}
use Rattle.mqtt_store_database.proofs.row_laws.table_changes.table_change_keeps_rows.Goals as goal

pub returns-clause-rows : goal.returns-clause-rows
returns-clause-rows c making change it db next r k o fits agrees says is does = (does_keep making change it db next r k o fits agrees says is does).0

pub returns-clause-order : goal.returns-clause-order
returns-clause-order c making change it db next r k o fits agrees says is does = (does_keep making change it db next r k o fits agrees says is does).1

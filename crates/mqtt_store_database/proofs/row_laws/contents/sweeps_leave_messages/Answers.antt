use Rattle.mqtt_store_database.proofs.row_laws_lemmas.tables.Sweep.{swept_table}
use Rattle.mqtt_store_database.proofs.row_laws.contents.sweeps_leave_messages.Goals as goal

pub returns : goal.returns
returns c making numbers q r old new agree lost written queued kept sweeps = swept_table making q r agree numbers old new (record { queued = queued; kept = kept }) lost written sweeps

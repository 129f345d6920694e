use Rattle.mqtt_records.proofs.lists_lemmas.LookUps.{row_at-put_row, row_at-remove_row}
use Rattle.mqtt_records.proofs.lists.laws.rows_are_found.Goals as goal

pub returns-clause-put : goal.returns-clause-put
returns-clause-put g c = row_at-put_row g.R.Row.key_of

pub returns-clause-removed : goal.returns-clause-removed
returns-clause-removed g c = row_at-remove_row g.R.Row.key_of

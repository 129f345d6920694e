use Rattle.mqtt_store_rows.proofs.taking_over_lemmas.OneLemmas.{one_records}
use Rattle.mqtt_store_rows.proofs.taking_over.laws.rows_give_one.Goals as goal

pub returns : goal.returns
returns c rows r s gives within others as_well = one_records rows r s gives within others as_well

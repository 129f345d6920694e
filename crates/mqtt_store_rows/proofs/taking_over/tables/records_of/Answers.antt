use Rattle.mqtt_store_rows.specs.values.Gives.{counters_of}
use Rattle.mqtt_store_rows.proofs.taking_over.tables.records_of.Goals as goal

pub returns-in_default-clause-err : goal.returns-in_default-clause-err
returns-in_default-clause-err c e r gives within = c.in_default.ensures (counters_of r) (rw c.deref.ensures.value gives.numbers)

-- Rows of schema 1 give one thing.
use Rattle.std.proofs.Common.{◌≡◌}
use Rattle.mqtt_records.specs.declared.state.records.Records.{Records}
use Rattle.mqtt_store_rows.specs.taking_over.Rows.{SaysRetained}
use Rattle.mqtt_store_rows.specs.values.Ones.{one_numbers}
use Rattle.mqtt_store_rows.specs.taking_over.Ones.{one_retained}
use Rattle.mqtt_store_rows.specs.values.Gives.{counters_of, AreWithin}
use Rattle.mqtt_store_rows.specs.taking_over.Gives.{Rows, Gives}
use Rattle.mqtt_store_rows.proofs.values_lemmas.OneLemmas.{one_sessions, same_records, same_rows}

-- rows give one records and no other
pub one_records : (rows : Rows) (r s : Records) → Gives rows r → AreWithin r → Gives rows s → AreWithin s → r ≡ s
one_records rows r s gives within others as_well =
    same_records (counters_of r) (counters_of s) r.sessions s.sessions r.retained s.retained (one_numbers 1 (counters_of r) (counters_of s) rows.meta gives.numbers others.numbers)
    (one_sessions rows.sessions rows.parts r.sessions s.sessions gives.sessions others.sessions within.sessions.ascending as_well.sessions.ascending)
    (same_rows SaysRetained one_retained rows.retained r.retained s.retained gives.retained others.retained)

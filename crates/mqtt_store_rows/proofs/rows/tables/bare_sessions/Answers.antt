use Rattle.std.proofs.Common.{ap}
use Rattle.mqtt_store_rows.specs.values.Gives.{Parts}
use Rattle.mqtt_store_rows.proofs.rows_lemmas.QueueLemmas.{bare_is}
use Rattle.mqtt_store_rows.proofs.rows.tables.bare_sessions.Goals as goal

pub returns-in-Ok-clause-bare : goal.returns-in-Ok-clause-bare
returns-in-Ok-clause-bare c = bare_is c.deref.result.now c.parts.result c.in-Ok.all (ap (λ (p : Parts). p.copies) c.parts.ensures) c.in-Ok.ensures.ok

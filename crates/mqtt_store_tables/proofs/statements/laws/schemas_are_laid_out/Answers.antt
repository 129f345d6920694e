use Rattle.std.proofs.Common.{refl}
use Rattle.mqtt_store_tables.proofs.statements_lemmas.tables.First.{is_first}
use Rattle.mqtt_store_tables.proofs.statements_lemmas.tables.Second.{is_second}
use Rattle.mqtt_store_tables.proofs.statements.laws.schemas_are_laid_out.Goals as goal

pub returns-clause-first : goal.returns-clause-first
returns-clause-first c = (refl, is_first)

pub returns-clause-second : goal.returns-clause-second
returns-clause-second c = is_second

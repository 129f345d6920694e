use Rattle.mqtt_store_tables.proofs.statements_lemmas.steps.Stands.{given_free, key_free}
use Rattle.mqtt_store_tables.proofs.statements.laws.number_is_free.Goals as goal

pub returns-clause-given : goal.returns-clause-given
returns-clause-given c tree row gone db shaped = given_free tree row gone db shaped

pub returns-clause-key : goal.returns-clause-key
returns-clause-key c tree n rest gone db shaped out = key_free tree n rest gone db shaped out

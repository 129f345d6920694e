use Rattle.mqtt_store_tables.proofs.statements_lemmas.steps.Stands.{removed_new, removed_old}
use Rattle.mqtt_store_tables.proofs.statements.laws.row_is_removed.Goals as goal

pub returns-clause-new : goal.returns-clause-new
returns-clause-new c l tree gone before after x h there = removed_new l tree gone before after x h there

pub returns-clause-old : goal.returns-clause-old
returns-clause-old c l tree gone before after x h it = removed_old l tree gone before after x h it

use Rattle.mqtt_store_tables.proofs.statements_lemmas.steps.Stands.{put_new, put_old}
use Rattle.mqtt_store_tables.proofs.statements.laws.row_is_put.Goals as goal

pub returns-clause-new : goal.returns-clause-new
returns-clause-new c l tree put gone before after x h there = put_new l tree gone before after x put h there

pub returns-clause-old : goal.returns-clause-old
returns-clause-old c l tree put gone before after x h free it = put_old l tree gone before after x put h free it

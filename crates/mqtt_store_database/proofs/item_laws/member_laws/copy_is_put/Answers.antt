use Rattle.mqtt_store_database.proofs.item_laws_lemmas.records.Queues.{put_new, put_old}
use Rattle.mqtt_store_database.proofs.item_laws.member_laws.copy_is_put.Goals as goal

pub returns-clause-new : goal.returns-clause-new
returns-clause-new c birth entry r b x kept fits it = put_new r kept birth entry fits b x it

pub returns-clause-old : goal.returns-clause-old
returns-clause-old c birth entry r b x kept fits it = put_old r kept birth entry fits b x it

use Rattle.mqtt_store_database.proofs.item_laws_lemmas.records.Queues.{set_new, set_old}
use Rattle.mqtt_store_database.proofs.item_laws.member_laws.copy_is_set.Goals as goal

pub returns-clause-new : goal.returns-clause-new
returns-clause-new c birth place phase r b x kept it = set_new r kept birth place phase b x it

pub returns-clause-old : goal.returns-clause-old
returns-clause-old c birth place phase r b x kept it = set_old r kept birth place phase b x it

use Rattle.mqtt_store_database.proofs.item_laws_lemmas.records.Queues.{removed_copy_new, removed_copy_old}
use Rattle.mqtt_store_database.proofs.item_laws.member_laws.copy_is_removed.Goals as goal

pub returns-clause-new : goal.returns-clause-new
returns-clause-new c birth place r b x kept it = removed_copy_new r kept birth place b x it

pub returns-clause-old : goal.returns-clause-old
returns-clause-old c birth place r b x kept it = removed_copy_old r kept birth place b x it

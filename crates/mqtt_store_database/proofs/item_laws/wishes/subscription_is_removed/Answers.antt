use Rattle.mqtt_store_database.proofs.item_laws_lemmas.records.Lists.{subscription_out_new, subscription_out_old}
use Rattle.mqtt_store_database.proofs.item_laws.wishes.subscription_is_removed.Goals as goal

pub returns-clause-new : goal.returns-clause-new
returns-clause-new c birth text r b x kept it = subscription_out_new r kept birth text b x it

pub returns-clause-old : goal.returns-clause-old
returns-clause-old c birth text r b x kept it = subscription_out_old r kept birth text b x it

use Rattle.mqtt_store_database.proofs.item_laws_lemmas.records.Lists.{subscription_new, subscription_old}
use Rattle.mqtt_store_database.proofs.item_laws.wishes.subscription_is_put.Goals as goal

pub returns-clause-new : goal.returns-clause-new
returns-clause-new c birth put r b x kept fits it = subscription_new r kept birth put fits b x it

pub returns-clause-old : goal.returns-clause-old
returns-clause-old c birth put r b x kept fits it = subscription_old r kept birth put fits b x it

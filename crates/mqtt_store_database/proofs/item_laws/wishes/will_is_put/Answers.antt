use Rattle.mqtt_store_database.proofs.item_laws_lemmas.records.Lists.{will_new, will_old}
use Rattle.mqtt_store_database.proofs.item_laws.wishes.will_is_put.Goals as goal

pub returns-clause-new : goal.returns-clause-new
returns-clause-new c birth will r b x kept it = will_new r kept birth will b x it

pub returns-clause-old : goal.returns-clause-old
returns-clause-old c birth will r b x kept fits it = will_old r kept birth will fits b x it

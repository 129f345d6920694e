use Rattle.mqtt_store_database.proofs.item_laws_lemmas.records.Lists.{will_out_new, will_out_old}
use Rattle.mqtt_store_database.proofs.item_laws.wishes.will_is_removed.Goals as goal

pub returns-clause-new : goal.returns-clause-new
returns-clause-new c birth r b x kept it = will_out_new r kept birth b x it

pub returns-clause-old : goal.returns-clause-old
returns-clause-old c birth r b x kept it = will_out_old r kept birth b x it

use Rattle.mqtt_store_database.proofs.item_laws_lemmas.records.Lists.{open_new, open_old}
use Rattle.mqtt_store_database.proofs.item_laws.wishes.identifier_is_put.Goals as goal

pub returns-clause-new : goal.returns-clause-new
returns-clause-new c birth n r b x kept fits it = open_new r kept birth n fits b x it

pub returns-clause-old : goal.returns-clause-old
returns-clause-old c birth n r b x kept fits it = open_old r kept birth n fits b x it

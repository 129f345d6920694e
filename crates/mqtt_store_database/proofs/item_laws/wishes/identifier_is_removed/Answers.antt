use Rattle.mqtt_store_database.proofs.item_laws_lemmas.records.Lists.{open_out_new, open_out_old}
use Rattle.mqtt_store_database.proofs.item_laws.wishes.identifier_is_removed.Goals as goal

pub returns-clause-new : goal.returns-clause-new
returns-clause-new c birth n r b x kept it = open_out_new r kept birth n b x it

pub returns-clause-old : goal.returns-clause-old
returns-clause-old c birth n r b x kept it = open_out_old r kept birth n b x it

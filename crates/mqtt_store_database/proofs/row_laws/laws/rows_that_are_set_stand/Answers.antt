use Rattle.mqtt_store_database.proofs.row_laws_lemmas.changes.Asked.{copy_asked, number_asked}
use Rattle.mqtt_store_database.proofs.row_laws.laws.rows_that_are_set_stand.Goals as goal

pub returns-clause-copy : goal.returns-clause-copy
returns-clause-copy c making birth place phase db r k fits = copy_asked making db r k birth place phase fits

pub returns-clause-number : goal.returns-clause-number
returns-clause-number c making counter db r k = number_asked making db r k counter

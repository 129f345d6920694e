use Rattle.mqtt_store_database.proofs.row_laws_lemmas.New.{new_keeps, new_in_order}
use Rattle.mqtt_store_database.proofs.row_laws.laws.new_second_keeps_nothing.Goals as goal

pub returns-clause-rows : goal.returns-clause-rows
returns-clause-rows c db h = new_keeps db h

pub returns-clause-order : goal.returns-clause-order
returns-clause-order c db h = new_in_order db h

use Rattle.mqtt_store_database.proofs.taking_over_lemmas.puts.Lawful.{lawful_rows}
use Rattle.mqtt_store_database.proofs.taking_over_lemmas.puts.Refilled.{refilled}
use Rattle.mqtt_store_database.proofs.taking_over.laws.puts_make_records.Goals as goal

pub returns-clause-made : goal.returns-clause-made
returns-clause-made c r lawful = (refilled r (lawful_rows r lawful)).ends

pub returns-clause-fit : goal.returns-clause-fit
returns-clause-fit c r lawful = (refilled r (lawful_rows r lawful)).fits

pub returns-clause-agree : goal.returns-clause-agree
returns-clause-agree c r lawful = (refilled r (lawful_rows r lawful)).agrees

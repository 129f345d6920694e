use Rattle.mqtt_store_database.proofs.row_laws_lemmas.changes.Tables.{asks_stand, ask_stand}
use Rattle.mqtt_store_database.proofs.row_laws.table_changes.asked_rows_stand.Goals as goal

pub returns-clause-one : goal.returns-clause-one
returns-clause-one c making change it db r k fits is = asks_stand making db r k change it fits is

pub returns-clause-all : goal.returns-clause-all
returns-clause-all c making changes them db r k o fits agrees says are = ask_stand making changes them db r k o fits agrees says are

use Rattle.mqtt_store_database.proofs.row_laws_lemmas.changes.First.{session_put_keeps, session_set_keeps, session_put_order}
use Rattle.mqtt_store_database.proofs.row_laws.sessions.session_that_is_put_keeps_rows.Goals as goal

pub returns-clause-put : goal.returns-clause-put
returns-clause-put c making row db next r k o fits h = session_put_keeps making db next r k o row h fits

pub returns-clause-set : goal.returns-clause-set
returns-clause-set c making row db next r k o fits h = session_set_keeps making db next r k o row h fits

pub returns-clause-order : goal.returns-clause-order
returns-clause-order c making row db next r k o h = session_put_order making db next r k o row h

use Rattle.mqtt_store_database.proofs.row_laws_lemmas.changes.PutCopy.{put_keeps, put_in_order}
use Rattle.mqtt_store_database.proofs.row_laws_lemmas.changes.Dropped.{copy_put}
use Rattle.mqtt_store_database.proofs.row_laws.copies.copy_that_is_put_keeps_rows.Goals as goal

pub returns-clause-rows : goal.returns-clause-rows
returns-clause-rows c making birth entry db next r k o fits agrees says h = put_keeps making db next r k o birth entry fits agrees h says

pub returns-clause-order : goal.returns-clause-order
returns-clause-order c making birth entry db next r k o fits agrees h = put_in_order making db next r k o birth entry fits agrees h

pub returns-clause-dropped : goal.returns-clause-dropped
returns-clause-dropped c making birth entry db said mid next r k o fits agrees sayable says puts drops = copy_put making db mid next r k o drops birth entry said fits agrees sayable says puts

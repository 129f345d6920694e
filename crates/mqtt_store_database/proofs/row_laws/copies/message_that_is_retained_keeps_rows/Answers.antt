use Rattle.mqtt_store_database.proofs.row_laws_lemmas.changes.Retained.{put_keeps, put_in_order}
use Rattle.mqtt_store_database.proofs.row_laws_lemmas.changes.Dropped.{retained_put}
use Rattle.mqtt_store_database.proofs.row_laws.copies.message_that_is_retained_keeps_rows.Goals as goal

pub returns-clause-rows : goal.returns-clause-rows
returns-clause-rows c making kept db next r k o fits agrees says h = put_keeps making db next r k o kept fits agrees h says

pub returns-clause-order : goal.returns-clause-order
returns-clause-order c making kept db next r k o fits agrees h = put_in_order making db next r k o kept fits agrees h

pub returns-clause-dropped : goal.returns-clause-dropped
returns-clause-dropped c making kept db said mid next r k o fits agrees sayable says puts drops = retained_put making db mid next r k o drops kept said fits agrees sayable says puts

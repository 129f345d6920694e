use Rattle.sqlite.specs.Held.{state}
use Rattle.mqtt_store_database.proofs.committing_lemmas.Settled.{in_order}
use Rattle.mqtt_store_database.proofs.committing.laws.settled_rows_are_in_order.Goals as goal

pub returns : goal.returns
returns g c making conn settled = in_order making (state g.S.Store conn) settled

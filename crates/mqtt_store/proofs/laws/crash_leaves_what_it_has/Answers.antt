use Rattle.sqlite.specs.Held.{state}
use Rattle.mqtt_store.proofs.Held.{leaves_held}
use Rattle.mqtt_store.proofs.laws.crash_leaves_what_it_has.Goals as goal

pub returns : goal.returns
returns g c conn left r holds found = leaves_held (state g.S.Store conn) left r holds found

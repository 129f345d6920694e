use Rattle.sqlite.specs.Held.{state}
use Rattle.mqtt_store.proofs.Held.{load_leaves}
use Rattle.mqtt_store.proofs.laws.load_leaves_no_more.Goals as goal

pub returns : goal.returns
returns g c old new r it found = load_leaves (state g.S.Store old) (state g.S.Store new) r it found

use Rattle.sqlite.specs.Held.{state}
use Rattle.mqtt_store.proofs.Held.{load_holds}
use Rattle.mqtt_store.proofs.laws.load_keeps_what_it_has.Goals as goal

pub returns : goal.returns
returns g c old new r it holds = load_holds (state g.S.Store old) (state g.S.Store new) r it holds

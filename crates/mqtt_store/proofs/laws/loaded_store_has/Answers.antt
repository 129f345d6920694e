use Rattle.sqlite.specs.Held.{state}
use Rattle.mqtt_store.proofs.Held.{has_now}
use Rattle.mqtt_store.proofs.laws.loaded_store_has.Goals as goal

pub returns : goal.returns
returns g c conn r has = has_now (state g.S.Store conn) r (λ up db. g.met.S.Store.settled conn.store db up) has

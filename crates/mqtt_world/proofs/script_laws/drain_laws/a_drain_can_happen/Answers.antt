-- By the rounds of the drain by that choice.
use Rattle.mqtt_world.proofs.script_laws_lemmas.Drainable.{can_happen}
use Rattle.mqtt_world.proofs.script_laws_lemmas.Drained.{kept_there}
use Rattle.mqtt_world.proofs.script_laws.drain_laws.a_drain_can_happen.Goals as goal

pub returns : goal.returns
returns c = λ limits es choice client most w v untouched comes good unspent enough. can_happen client limits choice most v (kept_there limits es choice client w v untouched comes) good unspent enough

-- What a refused event says of a world that runs.
use Rattle.std.proofs.Common.{ℕ, subst}
use Rattle.std.specs.Prelude.{Result, IfErr, IsErrOf}
use Rattle.mqtt_keep.specs.declared.keeping.keep.Keep.{Ghosts}
use Rattle.mqtt_world_model.specs.model.Tellings.{Telling}
use Rattle.mqtt_world_ends.specs.declared.peers.told.RunFault.{RunFault}
use Rattle.mqtt_world_ends.specs.declared.peers.told.RunFault.TheVariants as fault
use Rattle.mqtt_script.specs.declared.event.Event.{Event}
use Rattle.mqtt_world.specs.world.Worlds.{CantHappen, Lasting, Refuses}

-- an event that is answered as bad can't happen
pub cant_of : {K : Type 0} (g : Ghosts K) (e : Event) (r : Result Telling RunFault) (place : ℕ) (old new : Lasting K)
    → IfErr r (λ (f : RunFault). Refuses g e f old new) → IsErrOf r (fault.BadEvent place) → (after : Lasting K) × CantHappen g e old after
cant_of g e r place old new refused is =
    (new, (subst (λ (x : Result Telling RunFault). IfErr x (λ (f : RunFault). Refuses g e f old new)) is refused).0)

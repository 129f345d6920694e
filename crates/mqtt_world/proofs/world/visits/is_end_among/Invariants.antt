-- None of the names before is an end's.
use Rattle.std.proofs.Common.{◌≡◌, false, take}
use Rattle.mqtt_world_model.specs.model.World.{World}
use Rattle.mqtt_world.specs.clients.Ends.{in_world}
use Rattle.mqtt_world_ends.specs.strangers.Fronts.{is_end_among}
use Rattle.mqtt_world.proofs.world.visits.is_end_among.Given as goal

abbrev pub invariant-loop-name : goal.invariant-loop-name
invariant-loop-name l = (w : World) → is_end_among (take l.name-index l.names) (in_world l.clients w) ≡ false

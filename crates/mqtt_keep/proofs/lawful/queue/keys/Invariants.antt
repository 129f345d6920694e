-- The keys of the copies that were passed stand in the list.
use Rattle.std.proofs.Common.{◌≡◌, map, take}
use Rattle.mqtt_keep.specs.lawful.CopyKeys.{key_of, value_of}
use Rattle.mqtt_keep.proofs.lawful.queue.keys.Given as goal

abbrev pub invariant-loop-row : goal.invariant-loop-row
invariant-loop-row l = map value_of l.keys.items ≡ map (λ row. key_of row.copy.id) (take l.row-index l.queue)

-- Those that were gone through stand behind what stood.
use Rattle.std.proofs.Common.{◌≡◌, ◌++◌, take}
use Rattle.mqtt_store_tables.proofs.together.together.push_all.Given as goal

abbrev pub invariant-loop-value : goal.invariant-loop-value
invariant-loop-value l = l.out.items ≡ l.fn.out.items ++ take l.value-index l.values

use Rattle.std.proofs.Common.{◌≡◌, length}
use Rattle.mqtt_store_rows.specs.values.Blocks.{rises_from}
use Rattle.mqtt_store_rows.proofs.taking_over.block.rises.Given as goal

abbrev pub invariant-loop-prop : goal.invariant-loop-prop
invariant-loop-prop l = rises_from l.id l.rest ≡ rises_from 0 l.props

abbrev pub decreases-loop-prop : goal.decreases-loop-prop
decreases-loop-prop l = length l.rest

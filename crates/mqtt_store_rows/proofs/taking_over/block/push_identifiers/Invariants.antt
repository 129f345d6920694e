use Rattle.std.proofs.Common.{◌≡◌, ◌++◌, length}
use Rattle.mqtt_store_rows.specs.values.Blocks.{identifiers_in}
use Rattle.mqtt_store_rows.proofs.taking_over.block.push_identifiers.Given as goal

abbrev pub invariant-loop-prop : goal.invariant-loop-prop
invariant-loop-prop l = l.all ++ identifiers_in l.rest ≡ identifiers_in l.props

abbrev pub decreases-loop-prop : goal.decreases-loop-prop
decreases-loop-prop l = length l.rest

-- The rest answers as the whole (3.3.2.3).
use Rattle.std.proofs.Common.{◌≡◌, length}
use Rattle.mqtt_records.specs.messages.PassedOn.{rises_from}
use Rattle.mqtt_records.proofs.messages.properties.rises.Given as goal

abbrev pub invariant-loop-prop : goal.invariant-loop-prop
invariant-loop-prop l = rises_from l.id l.rest ≡ rises_from 0 l.props

abbrev pub decreases-loop-prop : goal.decreases-loop-prop
decreases-loop-prop l = length l.rest

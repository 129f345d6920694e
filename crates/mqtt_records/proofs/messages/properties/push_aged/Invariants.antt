-- What was added and what is left are the whole (3.3.2.3).
use Rattle.std.proofs.Common.{◌≡◌, ◌++◌, map, length}
use Rattle.mqtt_props.specs.declared.table.PropName.TheVariants.{UserProperty}
use Rattle.mqtt_props.specs.Edits.{without}
use Rattle.mqtt_records.specs.messages.PassedOn.{aged}
use Rattle.mqtt_records.proofs.messages.properties.push_aged.Given as goal

abbrev pub invariant-loop-prop : goal.invariant-loop-prop
invariant-loop-prop l =
    l.list ++ map (aged l.waited) (without UserProperty l.rest) ≡ l.fn.list ++ map (aged l.waited) (without UserProperty l.props)

abbrev pub decreases-loop-prop : goal.decreases-loop-prop
decreases-loop-prop l = length l.rest

-- What is written and what is left are the whole (MQTT 5.0, 2.2.2).
use Rattle.std.proofs.Common.{◌≡◌, ◌++◌, length}
use Rattle.mqtt_props.specs.Properties.{props}
use Rattle.mqtt_props.specs.Edits.{only}
use Rattle.mqtt_props.proofs.list.PropsRef.push_only.Given as goal

abbrev pub invariant-loop-prop : goal.invariant-loop-prop
invariant-loop-prop l = l.out.items ++ props (only l.name l.rest) ≡ l.fn.out.items ++ props (only l.name l.self)

abbrev pub decreases-loop-prop : goal.decreases-loop-prop
decreases-loop-prop l = length l.rest

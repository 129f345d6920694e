-- What is written and what is left are the whole (3.3.2.3.7).
use Rattle.std.proofs.Common.{◌≡◌, ◌++◌, length}
use Rattle.mqtt_props.specs.declared.table.PropName.TheVariants.{UserProperty}
use Rattle.mqtt_props.specs.Edits.{only}
use Rattle.mqtt_props.specs.Properties.{props}
use Rattle.mqtt_broker_looks.proofs.sent.sent.user_push.Given as goal

abbrev pub invariant-loop-prop : goal.invariant-loop-prop
invariant-loop-prop l =
    l.out.items ++ props (only UserProperty l.rest) ≡ l.fn.out.items ++ props (only UserProperty l.list)

abbrev pub decreases-loop-prop : goal.decreases-loop-prop
decreases-loop-prop l = length l.rest

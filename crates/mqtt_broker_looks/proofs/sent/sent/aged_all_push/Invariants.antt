-- What is written and what is left are the whole (3.3.2.3).
use Rattle.std.proofs.Common.{◌≡◌, ◌++◌, map, length}
use Rattle.mqtt_props.specs.declared.table.PropName.TheVariants.{UserProperty}
use Rattle.mqtt_props.specs.Edits.{without}
use Rattle.mqtt_props.specs.Properties.{props}
use Rattle.mqtt_records.specs.messages.PassedOn.{aged}
use Rattle.mqtt_broker_looks.proofs.sent.sent.aged_all_push.Given as goal

abbrev pub invariant-loop-prop : goal.invariant-loop-prop
invariant-loop-prop l =
    l.out.items ++ props (map (aged l.waited) (without UserProperty l.rest))
    ≡ l.fn.out.items ++ props (map (aged l.waited) (without UserProperty l.list))

abbrev pub decreases-loop-prop : goal.decreases-loop-prop
decreases-loop-prop l = length l.rest

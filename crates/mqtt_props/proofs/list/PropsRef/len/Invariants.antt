-- Those counted and those left are the whole (MQTT 5.0, 2.2.2).
use Rattle.std.proofs.Common.{◌≡◌, ◌+◌, length}
use Rattle.mqtt_props.proofs.list.PropsRef.len.Given as goal

abbrev pub invariant-loop-after : goal.invariant-loop-after
invariant-loop-after l = l.count + length l.rest ≡ length l.self

abbrev pub decreases-loop-after : goal.decreases-loop-after
decreases-loop-after l = length l.rest

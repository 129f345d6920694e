-- The rest answers as the whole (MQTT 5.0, 2.2.2).
use Rattle.std.proofs.Common.{◌≡◌, length}
use Rattle.std.specs.Prelude.{find}
use Rattle.mqtt_props.specs.Laws.{is_named}
use Rattle.mqtt_props.proofs.list.PropsRef.get.Given as goal

abbrev pub invariant-loop-prop : goal.invariant-loop-prop
invariant-loop-prop l = find (is_named l.name) l.rest ≡ find (is_named l.name) l.self

abbrev pub decreases-loop-prop : goal.decreases-loop-prop
decreases-loop-prop l = length l.rest

-- The rest answers as the whole (MQTT 5.0, 2.2.2.2).
use Rattle.std.proofs.Common.{◌≡◌, length}
use Rattle.mqtt_props.specs.Laws.{all_may_stand}
use Rattle.mqtt_props.proofs.list.PropsRef.may_stand_in.Given as goal

abbrev pub invariant-loop-prop : goal.invariant-loop-prop
invariant-loop-prop l = all_may_stand l.place l.rest ≡ all_may_stand l.place l.self

abbrev pub decreases-loop-prop : goal.decreases-loop-prop
decreases-loop-prop l = length l.rest

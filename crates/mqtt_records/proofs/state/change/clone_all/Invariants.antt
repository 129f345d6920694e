use Rattle.std.proofs.Common.{◌≡◌, take}
use Rattle.mqtt_records.proofs.state.change.clone_all.Given as goal

abbrev pub invariant-loop-change : goal.invariant-loop-change
invariant-loop-change l = l.clones.items ≡ take l.change-index l.changes

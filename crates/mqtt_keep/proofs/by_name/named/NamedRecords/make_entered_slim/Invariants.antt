-- What is slim so far, and the changes that are left, are all changes.
use Rattle.std.proofs.Common.{◌≡◌, drop}
use Rattle.mqtt_keep.specs.by_name.Slimming.{slim_entered}
use Rattle.mqtt_keep.proofs.by_name.named.NamedRecords.make_entered_slim.Given as goal

abbrev pub invariant-loop-change : goal.invariant-loop-change
invariant-loop-change l = slim_entered (drop l.change-index l.changes) l.self ≡ slim_entered l.changes l.fn.self

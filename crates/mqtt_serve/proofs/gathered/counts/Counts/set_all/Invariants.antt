use Rattle.std.proofs.Common.{◌≡◌, drop}
use Rattle.mqtt_serve.specs.gathered.Counting.{counts_after_all}
use Rattle.mqtt_serve.proofs.gathered.counts.Counts.set_all.Given as goal

-- who sets what the rest sets has set what all set
abbrev pub invariant-loop-change : goal.invariant-loop-change
invariant-loop-change l = counts_after_all (drop l.change-index l.changes) l.self ≡ counts_after_all l.changes l.initial.self

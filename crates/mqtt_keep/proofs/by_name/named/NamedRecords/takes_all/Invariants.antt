-- All stand if those that are left do, and only then.
use Rattle.std.proofs.Common.{drop}
use Rattle.mqtt_keep.specs.by_name.Slimming.{TakesAll}
use Rattle.mqtt_keep.proofs.by_name.named.NamedRecords.takes_all.Given as goal

abbrev pub invariant-loop-content : goal.invariant-loop-content
invariant-loop-content l = record {
  each : TakesAll l.birth (drop l.content-index l.contents) l.self → TakesAll l.birth l.contents l.self;
  only : TakesAll l.birth l.contents l.self → TakesAll l.birth (drop l.content-index l.contents) l.self;
}

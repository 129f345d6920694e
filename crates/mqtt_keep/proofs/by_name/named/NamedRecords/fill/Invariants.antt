-- What is filled so far, and what is left to be filled, is all that is told; and what is left can be filled.
use Rattle.std.proofs.Common.{◌≡◌}
use Rattle.mqtt_keep.specs.by_name.Slimming.{whole_places, TakesAll}
use Rattle.mqtt_keep.proofs.by_name.named.NamedRecords.fill.Given as goal

abbrev pub invariant-loop-content : goal.invariant-loop-content
invariant-loop-content l = record {
  whole : whole_places l.birth l.content-iterator.rest.items l.self ≡ whole_places l.birth l.fn.contents.items l.fn.self;
  left : TakesAll l.birth l.content-iterator.rest.items l.self;
}

-- What is counted and what is left are the whole; the whole has a spelling if what is left has one (3.3.2.3.8).
use Rattle.std.proofs.Common.{◌≡◌, ◌<◌, ◌^◌, ◌+◌, map, length}
use Rattle.std.specs.List.{AllByRecursion}
use Rattle.mqtt_props.specs.Properties.{IsProp, props}
use Rattle.mqtt_records.specs.messages.PassedOn.{identified}
use Rattle.mqtt_records.proofs.messages.sizes.identifiers_len.Given as goal

abbrev pub invariant-loop-identifier : goal.invariant-loop-identifier
invariant-loop-identifier l = record {
  whole : l.len + length (props (map identified l.rest)) ≡ length (props (map identified l.identifiers));
  short : l.len < 2 ^ 28;
  each : AllByRecursion IsProp (map identified l.rest) → AllByRecursion IsProp (map identified l.identifiers);
  only : AllByRecursion IsProp (map identified l.identifiers) → AllByRecursion IsProp (map identified l.rest);
}

abbrev pub decreases-loop-identifier : goal.decreases-loop-identifier
decreases-loop-identifier l = length l.rest

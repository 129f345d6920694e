-- What was written and what is left are the whole, and what is left has a spelling.
use Rattle.std.proofs.Common.{◌≡◌, ◌++◌, map, length}
use Rattle.std.specs.List.{AllByRecursion}
use Rattle.mqtt_props.specs.Properties.{IsProp, props}
use Rattle.mqtt_records.specs.messages.PassedOn.{identified}
use Rattle.mqtt_store_database.proofs.committing.parts.push_each.Given as goal

abbrev pub invariant-loop-identifier : goal.invariant-loop-identifier
invariant-loop-identifier l = record {
  written : l.out.items ++ props (map identified l.rest) ≡ l.fn.out.items ++ props (map identified l.identifiers);
  fit : AllByRecursion IsProp (map identified l.rest);
}

abbrev pub decreases-loop-identifier : goal.decreases-loop-identifier
decreases-loop-identifier l = length l.rest

-- What was added and what is left are the whole (3.3.2.3.8).
use Rattle.std.proofs.Common.{◌≡◌, ◌++◌, map, length}
use Rattle.mqtt_records.specs.messages.PassedOn.{identified}
use Rattle.mqtt_records.proofs.messages.properties.push_identifiers.Given as goal

abbrev pub invariant-loop-identifier : goal.invariant-loop-identifier
invariant-loop-identifier l = l.list ++ map identified l.rest ≡ l.fn.list ++ map identified l.identifiers

abbrev pub decreases-loop-identifier : goal.decreases-loop-identifier
decreases-loop-identifier l = length l.rest

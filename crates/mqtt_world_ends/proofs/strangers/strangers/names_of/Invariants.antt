use Rattle.std.proofs.Common.{length}
use Rattle.mqtt_world_ends.proofs.strangers_lemmas.Names.{NamesSoFar}
use Rattle.mqtt_world_ends.proofs.strangers.strangers.names_of.Given as goal

abbrev pub invariant-loop-names : goal.invariant-loop-names
invariant-loop-names l = NamesSoFar l.bytes l.names.items l.rest

abbrev pub decreases-loop-names : goal.decreases-loop-names
decreases-loop-names l = length l.rest

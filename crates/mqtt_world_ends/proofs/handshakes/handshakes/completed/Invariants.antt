use Rattle.std.proofs.Common.{◌≡◌, take}
use Rattle.std.specs.Prelude.{count_by}
use Rattle.mqtt_world_ends.specs.handshakes.Fates.{has_completed}
use Rattle.mqtt_world_ends.proofs.handshakes.handshakes.completed.Given as goal

abbrev pub invariant-loop-fate : goal.invariant-loop-fate
invariant-loop-fate l = l.count ≡ count_by has_completed (take l.fate-index l.fates)

use Rattle.std.proofs.Common.{◌≡◌, ◌++◌, map, take, drop}
use Rattle.mqtt_world_ends.specs.handshakes.Fates.{heard_by}
use Rattle.mqtt_world_ends.proofs.handshakes.handshakes.hear_all.Given as goal

abbrev pub invariant-loop-fate : goal.invariant-loop-fate
invariant-loop-fate l = l.fates ≡ map (heard_by l.heard) (take l.fate-index l.fn.fates) ++ drop l.fate-index l.fn.fates

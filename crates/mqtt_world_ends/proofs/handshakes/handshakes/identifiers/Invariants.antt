use Rattle.std.proofs.Common.{◌≡◌, take}
use Rattle.mqtt_flow.specs.inbound.Publisher.{in_flight}
use Rattle.mqtt_world_ends.specs.handshakes.Fates.{fates_of}
use Rattle.mqtt_world_ends.proofs.handshakes.handshakes.identifiers.Given as goal

abbrev pub invariant-loop-fate : goal.invariant-loop-fate
invariant-loop-fate l = l.ids.items ≡ in_flight (fates_of (take l.fate-index l.fates))

use Rattle.std.proofs.Common.{◌≡◌, take}
use Rattle.mqtt_flow.specs.inbound.Publisher.{resent_from}
use Rattle.mqtt_world_ends.specs.handshakes.Fates.{fates_of, packets_of}
use Rattle.mqtt_world_ends.proofs.handshakes.handshakes.resent.Given as goal

abbrev pub invariant-loop-message : goal.invariant-loop-message
invariant-loop-message l = packets_of l.packets.items ≡ resent_from 0 (fates_of (take l.message l.fates))

use Rattle.std.proofs.Common.{◌≡◌, map, take}
use Rattle.mqtt_world_ends.specs.handshakes.Fates.{packets_of}
use Rattle.mqtt_world_model.specs.model.Ends.{goes, shake}
use Rattle.mqtt_world_ends.proofs.peers.publisher.send_shakes.Given as goal

abbrev pub invariant-loop-packet : goal.invariant-loop-packet
invariant-loop-packet l = l.line ≡ goes l.stands (map shake (packets_of (take l.packet-index l.packets))) l.fn.line

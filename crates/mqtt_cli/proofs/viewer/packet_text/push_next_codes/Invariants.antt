use Rattle.std.proofs.Common.{◌≡◌, ◌++◌, length}
use Rattle.std.specs.List.{flat_map}
use Rattle.mqtt_cli.specs.viewer.PacketText.{next_code}
use Rattle.mqtt_cli.proofs.viewer.packet_text.push_next_codes.Given as goal

abbrev pub invariant-loop-first : goal.invariant-loop-first
invariant-loop-first l = l.text.items ++ flat_map next_code l.rest ≡ l.fn.text.items ++ flat_map next_code l.codes

abbrev pub decreases-loop-first : goal.decreases-loop-first
decreases-loop-first l = length l.rest

use Rattle.std.proofs.Common.{◌≡◌, ◌++◌, length}
use Rattle.std.specs.List.{flat_map}
use Rattle.mqtt_cli.specs.viewer.JsonPacket.{json_next_code}
use Rattle.mqtt_cli.proofs.viewer.json_lists.push_json_next_codes.Given as goal

abbrev pub invariant-loop-first : goal.invariant-loop-first
invariant-loop-first l = l.text.items ++ flat_map json_next_code l.rest ≡ l.fn.text.items ++ flat_map json_next_code l.codes

abbrev pub decreases-loop-first : goal.decreases-loop-first
decreases-loop-first l = length l.rest

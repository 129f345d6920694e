use Rattle.std.proofs.Common.{◌≡◌, ◌++◌, length}
use Rattle.std.specs.List.{flat_map}
use Rattle.mqtt_cli.specs.viewer.JsonValues.{json_byte}
use Rattle.mqtt_cli.proofs.viewer.json_values.push_json_run.Given as goal

abbrev pub invariant-loop-byte : goal.invariant-loop-byte
invariant-loop-byte l = l.text.items ++ flat_map json_byte l.rest ≡ l.fn.text.items ++ flat_map json_byte l.value

abbrev pub decreases-loop-byte : goal.decreases-loop-byte
decreases-loop-byte l = length l.rest

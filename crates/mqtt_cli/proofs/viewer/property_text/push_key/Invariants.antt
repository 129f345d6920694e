use Rattle.std.proofs.Common.{◌≡◌, ◌++◌, length}
use Rattle.mqtt_cli.specs.viewer.PropertyText.{key_text}
use Rattle.mqtt_cli.proofs.viewer.property_text.push_key.Given as goal

abbrev pub invariant-loop-byte : goal.invariant-loop-byte
invariant-loop-byte l = l.text.items ++ key_text l.rest ≡ l.fn.text.items ++ key_text l.key

abbrev pub decreases-loop-byte : goal.decreases-loop-byte
decreases-loop-byte l = length l.rest

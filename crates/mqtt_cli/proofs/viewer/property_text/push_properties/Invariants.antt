use Rattle.std.proofs.Common.{◌≡◌, ◌++◌, length}
use Rattle.mqtt_cli.specs.viewer.PropertyText.{properties_text}
use Rattle.mqtt_cli.proofs.viewer.property_text.push_properties.Given as goal

abbrev pub invariant-loop-first : goal.invariant-loop-first
invariant-loop-first l =
    l.text.items ++ properties_text l.of_will l.rest ≡ l.fn.text.items ++ properties_text l.of_will l.properties

abbrev pub decreases-loop-first : goal.decreases-loop-first
decreases-loop-first l = length l.rest

use Rattle.std.proofs.Common.{◌≡◌, ◌++◌, length}
use Rattle.mqtt_base.specs.Escaped.{escaped}
use Rattle.mqtt_cli.proofs.viewer.packet_text.push_escaped.Given as goal

abbrev pub invariant-runs : goal.invariant-runs
invariant-runs l = l.text.items ++ escaped l.rest ≡ l.initial.text.items ++ escaped l.value

abbrev pub decreases-runs : goal.decreases-runs
decreases-runs l = length l.rest

-- The lines of a text grow by those of the packets that a framer gives, each of which leaves less to hold.
use Rattle.std.proofs.Common.{[], length}
use Rattle.mqtt_cli.specs.viewer.Viewing.{AddsLines}
use Rattle.mqtt_cli.proofs.viewer.viewer.push_packets.Given as goal

abbrev pub invariant-packets : goal.invariant-packets
invariant-packets l = AddsLines l.details l.initial.framer [] l.framer l.initial.text.items l.text.items

abbrev pub decreases-packets : goal.decreases-packets
decreases-packets l = length l.framer.held

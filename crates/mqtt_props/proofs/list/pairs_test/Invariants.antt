-- What is left to read settles the whole (MQTT 5.0, 2.2.2).
use Rattle.std.proofs.Common.{length}
use Rattle.mqtt_base.proofs.Items.{Settled}
use Rattle.mqtt_props.specs.declared.fault.PropFault.TheVariants.{Malformed}
use Rattle.mqtt_props.specs.Laws.{placed_at}
use Rattle.mqtt_props.proofs.list.pairs_test.Given as goal

abbrev pub invariant-loop-rest : goal.invariant-loop-rest
invariant-loop-rest l = Settled Malformed (placed_at l.place) l.rest l.pairs

abbrev pub decreases-loop-rest : goal.decreases-loop-rest
decreases-loop-rest l = length l.rest

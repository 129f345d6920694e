use Rattle.std.proofs.Common.{arith}
use Rattle.mqtt_broker_acts.proofs.connecting.standing.connect_standing.Goals as goal

pub connect_within-requires-clause-within : goal.connect_within-requires-clause-within
connect_within-requires-clause-within g c = search arith

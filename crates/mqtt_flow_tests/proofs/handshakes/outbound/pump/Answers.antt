use Rattle.std.proofs.Common.{rules}
use Rattle.mqtt_flow.proofs.outbound_lemmas.outbound.Room.{pump_fits}
use Rattle.mqtt_flow_tests.proofs.handshakes.outbound.pump.Goals as goal

pub pump-requires : goal.pump-requires
pump-requires c = search (rules, pump_fits)

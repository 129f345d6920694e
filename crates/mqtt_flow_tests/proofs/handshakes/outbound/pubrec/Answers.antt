use Rattle.std.proofs.Common.{rules}
use Rattle.mqtt_flow.proofs.outbound_lemmas.outbound.Room.{pubrec_fits}
use Rattle.mqtt_flow_tests.proofs.handshakes.outbound.pubrec.Goals as goal

pub pubrec-requires : goal.pubrec-requires
pubrec-requires c = search (rules, pubrec_fits)

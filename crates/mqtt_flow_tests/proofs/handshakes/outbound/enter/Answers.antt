use Rattle.std.proofs.Common.{rules}
use Rattle.mqtt_flow.proofs.outbound_lemmas.outbound.Room.{enter_fits}
use Rattle.mqtt_flow_tests.proofs.handshakes.outbound.enter.Goals as goal

pub enter-requires-clause-place : goal.enter-requires-clause-place
enter-requires-clause-place c = λ has_room. search (rules, enter_fits)

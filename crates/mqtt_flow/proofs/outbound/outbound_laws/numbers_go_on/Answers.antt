use Rattle.mqtt_flow.proofs.outbound_lemmas.outbound.Room.{pump-orders, pubrec-order, way_open-place}
use Rattle.mqtt_flow.proofs.outbound.outbound_laws.numbers_go_on.Goals as goal

pub returns-clause-pump : goal.returns-clause-pump
returns-clause-pump c = pump-orders

pub returns-clause-pubrec : goal.returns-clause-pubrec
returns-clause-pubrec c = pubrec-order

pub returns-clause-enter : goal.returns-clause-enter
returns-clause-enter c = way_open-place

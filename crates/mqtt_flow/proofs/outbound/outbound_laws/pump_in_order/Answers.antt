use Rattle.mqtt_flow.proofs.outbound_lemmas.outbound.PumpLaws.{in_queue_order, within_window, is_lowest_free}
use Rattle.mqtt_flow.proofs.outbound.outbound_laws.pump_in_order.Goals as goal

pub returns-clause-order : goal.returns-clause-order
returns-clause-order c = in_queue_order

pub returns-clause-window : goal.returns-clause-window
returns-clause-window c = within_window

pub returns-clause-identifier : goal.returns-clause-identifier
returns-clause-identifier c = is_lowest_free

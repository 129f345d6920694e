-- Those that were passed are closed; then those that were passed are settled.
use Rattle.std.proofs.Common.{drop}
use Rattle.mqtt_broker.proofs.stored_lemmas.Going.{IsGoing, IsShutting}
use Rattle.mqtt_broker.proofs.stored.closing.close_each.Given as goal

abbrev pub invariant-loop-connected : goal.invariant-loop-connected
invariant-loop-connected l = IsShutting l.fn.step l.step l.index.sessions (drop l.connected-index l.connected-items)

abbrev pub invariant-loop-birth : goal.invariant-loop-birth
invariant-loop-birth l = IsGoing l.fn.step l.step l.index.sessions l.birth-iterator.rest.items

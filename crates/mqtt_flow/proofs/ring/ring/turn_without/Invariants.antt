use Rattle.std.proofs.Common.{◌≡◌}
use Rattle.mqtt_flow.proofs.ring_lemmas.RingLemmas.{Turned}
use Rattle.mqtt_flow.proofs.ring.ring.turn_without.Given as goal

abbrev pub invariant-loop-turn : goal.invariant-loop-turn
invariant-loop-turn g l = Turned l.place l._turn l.fn.ring.items l.ring.items × (l.ring.capacity ≡ l.fn.ring.capacity)

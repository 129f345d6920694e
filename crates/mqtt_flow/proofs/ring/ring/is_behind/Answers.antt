use Rattle.std.proofs.Common.{sym}
use Rattle.mqtt_flow.proofs.ring_lemmas.RingLemmas.{below_last, below_none}
use Rattle.mqtt_flow.proofs.ring.ring.is_behind.Goals as goal

pub returns-in-Some : goal.returns-in-Some
returns-in-Some g c = sym (below_last c.args.place c.args.ring.now.items c.in-Some.last.now c.requires (sym c.in-Some.ensures))

pub returns-in-None : goal.returns-in-None
returns-in-None g c = sym (below_none c.args.place c.args.ring.now.items (sym c.in-None.ensures))

use Rattle.std.proofs.Common.{sym, subst}
use Rattle.mqtt_packet.specs.stream.Stream.{Framing}
use Rattle.mqtt_broker.specs.engine.Framers.{AreBytes}
use Rattle.mqtt_broker.proofs.engine_lemmas.HeldBytes.{first_bytes}
use Rattle.mqtt_broker.proofs.engine.holding.Held.drop_first.Goals as goal

pub invariant_of-self : goal.invariant_of-self
invariant_of-self c = subst (λ (f : Framing). AreBytes f.held) (sym c.drop_first.ensures) (first_bytes c.self.inside.framer c.self.invariant)

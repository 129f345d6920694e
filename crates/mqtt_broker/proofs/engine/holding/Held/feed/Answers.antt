use Rattle.std.proofs.Common.{rules}
use Rattle.mqtt_broker.proofs.engine_lemmas.HeldBytes.{taken_bytes}
use Rattle.mqtt_broker.proofs.engine.holding.Held.feed.Goals as goal

pub invariant_of-self : goal.invariant_of-self
invariant_of-self c =
    taken_bytes c.args.piece.now c.self.inside.framer c.take.new.framer c.take.result c.take.ensures.ok c.take.ensures.err c.self.invariant (search rules)

use Rattle.std.proofs.Common.{refl}
use Rattle.mqtt_broker.proofs.stored_lemmas.Resting.{over_rest}
use Rattle.mqtt_broker.proofs.stored.engine.Engine.over.Goals as goal

pub invariant_of-result : goal.invariant_of-result
invariant_of-result g c =
    over_rest g.K.Keep _ c.args.step.limits c.args.step.broker c.requires.whole.0 c.requires.whole.1 (rw c.settle.ensures c.requires.serves) refl c.new.ensures c.make_all_slim.ensures

use Rattle.mqtt_broker.proofs.stored_lemmas.Resting.{later_rest}
use Rattle.mqtt_broker.proofs.stored.engine.Engine.rest_at.Goals as goal

pub invariant_of-self : goal.invariant_of-self
invariant_of-self g c = later_rest g.K.Keep c.args.moment c.self.inside.parts c.self.invariant c.rest_at.new.self c.rest_at.ensures

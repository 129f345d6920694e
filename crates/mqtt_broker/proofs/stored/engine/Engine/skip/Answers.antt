use Rattle.mqtt_broker.proofs.stored_lemmas.Resting.{later_rest, skipped}
use Rattle.mqtt_broker.proofs.stored.engine.Engine.skip.Goals as goal

pub returns-clause-called : goal.returns-clause-called
returns-clause-called g c = λ call on.
    skipped g.K.Keep g.met.K.Keep.tells c.args.moment call c.self.inside.parts c.self.invariant c.args.line c.args.self.now c.nothing.result c.rest_at.new.self c.self.view_is c.requires.running c.requires.unlinked c.nothing.ensures on
    c.rest_at.ensures

pub invariant_of-self : goal.invariant_of-self
invariant_of-self g c = later_rest g.K.Keep c.args.moment c.self.inside.parts c.self.invariant c.rest_at.new.self c.rest_at.ensures

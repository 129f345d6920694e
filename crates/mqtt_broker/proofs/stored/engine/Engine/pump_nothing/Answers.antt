use Rattle.mqtt_rules.specs.step.Step.{Pump}
use Rattle.mqtt_broker.proofs.stored_lemmas.Linked.{pumped_nothing}
use Rattle.mqtt_broker.proofs.stored_lemmas.Resting.{later_rest, rested}
use Rattle.mqtt_broker.proofs.stored.engine.Engine.pump_nothing.Goals as goal

pub returns-clause-called : goal.returns-clause-called
returns-clause-called g c =
    let old = c.args.self.now in
    rested g.K.Keep g.met.K.Keep.tells c.args.moment (Pump c.args.line) c.self.inside.parts c.self.invariant old c.nothing.result c.rest_at.new.self c.self.view_is c.requires.running
    (pumped_nothing old.limits c.args.moment c.args.line old.broker c.nothing.result c.requires.none c.nothing.ensures)
    c.rest_at.ensures

pub invariant_of-self : goal.invariant_of-self
invariant_of-self g c = later_rest g.K.Keep c.args.moment c.self.inside.parts c.self.invariant c.rest_at.new.self c.rest_at.ensures

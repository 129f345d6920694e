use Rattle.mqtt_rules.specs.step.Step.{Tick}
use Rattle.mqtt_broker.proofs.engine_lemmas.Serving.{of_lines_called}
use Rattle.mqtt_broker.proofs.engine.engine.Engine.tick.Goals as goal

pub invariant_of-self : goal.invariant_of-self
invariant_of-self g c =
    of_lines_called g.K.Keep c.args.moment Tick c.self.inside.inner c.tick-answer.new.self c.self.inside.framers c.end_closed.new.framers c.tick-answer.result tt
    c.tick-answer.ensures c.end_closed.ensures.held c.end_closed.ensures.kept c.self.invariant

use Rattle.std.proofs.Common.{◌≡◌, ap, sym, ◌∙◌}
use Rattle.mqtt_rules.specs.declared.step.Capacity.{Capacity}
use Rattle.mqtt_rules.specs.step.State.{Broker}
use Rattle.mqtt_rules.specs.step.Step.{at_moment}
use Rattle.mqtt_rules.specs.filling.Filling.{filled}
use Rattle.mqtt_broker_step.specs.Doing.{after_act, links}
use Rattle.mqtt_broker_step.specs.Stepping.{Stepping}
use Rattle.mqtt_broker.specs.stored.Running.{Running}
use Rattle.mqtt_broker.proofs.stored_lemmas.Linked.{linked}
use Rattle.mqtt_broker.proofs.stored_lemmas.Resting.{link_fills, link_rest}
use Rattle.mqtt_broker.proofs.stored_lemmas.Finished.{of_sound_ready}
use Rattle.mqtt_broker.proofs.stored.engine.Engine.link.Goals as goal

pub link-requires-clause-given : goal.link-requires-clause-given
link-requires-clause-given g c =
    let s = c.self.inside.parts.step in
    let its = c.self.invariant.sound in
    (of_sound_ready s.limits s.broker its).lines.given

pub invariant_of-self : goal.invariant_of-self
invariant_of-self g c = link_rest g.K.Keep c.args.moment c.self.inside.parts c.self.invariant c.link.new.self c.link.ensures.step

pub returns-clause-step : goal.returns-clause-step
returns-clause-step g c =
    let p = c.self.inside.parts in
    let fillings = g.K.Keep.fillings p.keep in
    let same : c.args.self.now.broker ≡ filled fillings p.step.broker = sym (ap (λ (r : Running _). r.broker) c.self.view_is) in
    linked c.args.self.now.limits c.args.moment c.args.self.now.broker (filled fillings c.link.new.self.broker)
    (ap (λ (t : Stepping). filled fillings t.broker) c.link.ensures.step
    ∙ (link_fills p.step.limits fillings c.args.moment p.step.broker
    ∙ (ap (λ (b : Broker). after_act (links p.step.limits) (at_moment c.args.moment b)) (sym same)
    ∙ ap (λ (l : Capacity). after_act (links l) (at_moment c.args.moment c.args.self.now.broker)) (ap (λ (r : Running _). r.limits) c.self.view_is))))

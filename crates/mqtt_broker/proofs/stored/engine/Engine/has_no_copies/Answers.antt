use Rattle.std.proofs.Common.{◌≡◌, Bool, ◌&&◌, not, refl, ap, subst, ◌∙◌}
use Rattle.mqtt_rules.specs.filling.Filling.{filled}
use Rattle.mqtt_broker.specs.engine.Looks.{has_none, queue_on_line}
use Rattle.mqtt_broker.specs.stored.Running.{Running}
use Rattle.mqtt_broker.proofs.engine_lemmas.Looked.{lines_long}
use Rattle.mqtt_broker.proofs.stored.engine.Engine.has_no_copies.Goals as goal

pub returns-then-has_none : goal.returns-then-has_none
returns-then-has_none g c =
    let p = c.self.inside.parts in
    let fillings = g.K.Keep.fillings p.keep in
    let said = c.has_none.ensures ∙ ap has_none (c.copies_on.ensures ∙ lines_long fillings c.args.line p.step.broker (filled fillings p.step.broker) refl) in
    subst (λ (t : Bool). t && not p.stopped ≡ has_none (queue_on_line c.args.line c.args.self.now.broker) && not c.args.self.now.stopped) c.if-has_none.true
    (ap (λ (t : Bool). t && not p.stopped) said ∙ ap (λ (r : Running _). has_none (queue_on_line c.args.line r.broker) && not r.stopped) c.self.view_is)

pub returns-else-has_none : goal.returns-else-has_none
returns-else-has_none g c =
    let p = c.self.inside.parts in
    let fillings = g.K.Keep.fillings p.keep in
    let said = c.has_none.ensures ∙ ap has_none (c.copies_on.ensures ∙ lines_long fillings c.args.line p.step.broker (filled fillings p.step.broker) refl) in
    c.if-has_none.false
    ∙ subst (λ (t : Bool). t && not p.stopped ≡ has_none (queue_on_line c.args.line c.args.self.now.broker) && not c.args.self.now.stopped) c.if-has_none.false
    (ap (λ (t : Bool). t && not p.stopped) said ∙ ap (λ (r : Running _). has_none (queue_on_line c.args.line r.broker) && not r.stopped) c.self.view_is)

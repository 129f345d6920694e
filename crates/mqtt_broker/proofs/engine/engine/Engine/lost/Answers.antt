use Rattle.std.proofs.Common.{◌≡◌, rules, true, false, refl, sym, ap, subst, ◌∙◌}
use Rattle.mqtt_records.specs.lists.Order.{has_row}
use Rattle.mqtt_rules.specs.step.State.{line_at}
use Rattle.mqtt_rules.specs.step.Step.{Lost}
use Rattle.mqtt_broker.specs.engine.Framers.{line_of}
use Rattle.mqtt_broker.specs.engine.Serving.{Served, Serving, serving}
use Rattle.mqtt_broker.proofs.engine_lemmas.Serving.{linked_line, of_lines_called, unlinked_line}
use Rattle.mqtt_broker.proofs.engine.engine.Engine.lost.Goals as goal

pub invariant_of-self : goal.invariant_of-self
invariant_of-self g c = c.pass_over.ensures.lines c.self.inside.framers c.self.invariant

pub returns-then-not-has-clause-called : goal.returns-then-not-has-clause-called
returns-then-not-has-clause-called g c =
    let same : c.args.self.now ≡ serving c.self.inside.inner c.self.inside.framers = search rules in
    let none : has_row line_of c.args.line c.self.inside.framers ≡ false = search rules in
    subst (λ (s : Serving _). Served g.K.Keep c.args.moment (Lost c.args.line) s c.pass_over.result (serving c.pass_over.new.engine c.self.inside.framers)) (sym same)
    (c.pass_over.ensures.served c.args.line (Lost c.args.line) c.self.inside.framers
    (unlinked_line c.args.line c.self.inside.framers c.self.inside.inner.broker c.self.invariant none) refl)

pub invariant_of-self-2 : goal.invariant_of-self-2
invariant_of-self-2 g c =
    of_lines_called g.K.Keep c.args.moment (Lost c.args.line) c.self.inside.inner c.lost-answer.new.self c.self.inside.framers c.end_closed.new.framers c.lost-answer.result tt
    c.lost-answer.ensures c.end_closed.ensures.held c.end_closed.ensures.kept c.self.invariant

pub returns-clause-unlinked : goal.returns-clause-unlinked
returns-clause-unlinked g c = λ none running.
    let same : c.args.self.now ≡ serving c.self.inside.inner c.self.inside.framers = search rules in
    let there : has_row line_of c.args.line c.self.inside.framers ≡ true = search rules in
    absurd (linked_line c.args.line c.self.inside.framers c.self.inside.inner.broker c.self.invariant there
    (ap (λ (s : Serving _). line_at c.args.line s.running.broker) (sym same) ∙ none))

use Rattle.std.proofs.Common.{◌≡◌, rules, true, false, sym, ap, subst, ◌∙◌}
use Rattle.std.specs.Prelude.{Ok}
use Rattle.mqtt_records.specs.lists.Order.{has_row}
use Rattle.mqtt_rules.specs.step.State.{line_at}
use Rattle.mqtt_broker.specs.engine.Framers.{line_of}
use Rattle.mqtt_broker.specs.engine.Piece.{PieceCalled}
use Rattle.mqtt_broker.specs.engine.Serving.{Serving, serving}
use Rattle.mqtt_broker.proofs.engine_lemmas.Pieced.{passed_piece}
use Rattle.mqtt_broker.proofs.engine_lemmas.Serving.{linked_line, rested_lines, unlinked_line}
use Rattle.mqtt_broker.proofs.engine.engine.Engine.piece.Goals as goal

pub invariant_of-self : goal.invariant_of-self
invariant_of-self g c = rested_lines c.args.moment c.self.inside.inner c.rest_at.new.self c.self.inside.framers c.rest_at.ensures.ok c.self.invariant

pub returns-then-not-has-clause-called : goal.returns-then-not-has-clause-called
returns-then-not-has-clause-called g c =
    let same : c.args.self.now ≡ serving c.self.inside.inner c.self.inside.framers = search rules in
    let none : has_row line_of c.args.line c.self.inside.framers ≡ false = search rules in
    let running : c.self.inside.inner.stopped ≡ false = search rules in
    subst (λ (s : Serving _). PieceCalled g.K.Keep c.args.moment c.args.line c.args.piece.now s (Ok c.rest_at.result) (serving c.rest_at.new.self c.self.inside.framers)) (sym same)
    (passed_piece g.K.Keep c.args.moment c.args.line c.args.piece.now c.self.inside.inner c.self.inside.framers running (c.is_stopped.ensures.stored running)
    (unlinked_line c.args.line c.self.inside.framers c.self.inside.inner.broker c.self.invariant none) c.rest_at.result c.rest_at.new.self c.rest_at.ensures.told c.rest_at.ensures.ok)

pub returns-clause-unlinked : goal.returns-clause-unlinked
returns-clause-unlinked g c = λ none running.
    let same : c.args.self.now ≡ serving c.self.inside.inner c.self.inside.framers = search rules in
    let there : has_row line_of c.args.line c.self.inside.framers ≡ true = search rules in
    absurd (linked_line c.args.line c.self.inside.framers c.self.inside.inner.broker c.self.invariant there
    (ap (λ (s : Serving _). line_at c.args.line s.running.broker) (sym same) ∙ none))

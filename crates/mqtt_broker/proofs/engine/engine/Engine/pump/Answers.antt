use Rattle.std.proofs.Common.{◌≡◌, false, true, rules, refl, sym, ap, subst, ◌∙◌}
use Rattle.std.specs.Prelude.{Ok}
use Rattle.mqtt_base.specs.declared.limits.TheConstants.{PUMP_LIMIT}
use Rattle.mqtt_records.specs.lists.Order.{has_row}
use Rattle.mqtt_rules.specs.step.State.{line_at}
use Rattle.mqtt_rules.specs.step.Step.{Pump}
use Rattle.mqtt_broker_looks.specs.at_hand.Reading.{AskedAtMost}
use Rattle.mqtt_broker.specs.engine.Framers.{line_of}
use Rattle.mqtt_broker.specs.engine.Serving.{Served, Serving, serving}
use Rattle.mqtt_broker.specs.stored.Running.{Running}
use Rattle.mqtt_broker.proofs.engine_lemmas.Looked.{none_held, runs_held}
use Rattle.mqtt_broker.proofs.engine_lemmas.Serving.{asked_never, linked_line, of_lines_called, rested_lines, told_served, unlinked_line}
use Rattle.mqtt_broker.proofs.engine.engine.Engine.pump.Goals as goal

-- ---- the session on the line has no copies

pub pump_nothing-requires-clause-running : goal.pump_nothing-requires-clause-running
pump_nothing-requires-clause-running g c = runs_held c.args.line c.self.inside.inner.broker c.self.inside.inner.stopped (sym c.has_no_copies.ensures ∙ c.if-has_no_copies.true)

pub pump_nothing-requires-clause-none : goal.pump_nothing-requires-clause-none
pump_nothing-requires-clause-none g c = none_held c.args.line c.self.inside.inner.broker c.self.inside.inner.stopped (sym c.has_no_copies.ensures ∙ c.if-has_no_copies.true)

pub invariant_of-self : goal.invariant_of-self
invariant_of-self g c = rested_lines c.args.moment c.self.inside.inner c.pump_nothing.new.self c.self.inside.framers c.pump_nothing.ensures.ok c.self.invariant

pub returns-then-has_no_copies-clause-called : goal.returns-then-has_no_copies-clause-called
returns-then-has_no_copies-clause-called g c =
    let same : c.args.self.now ≡ serving c.self.inside.inner c.self.inside.framers = search rules in
    subst (λ (s : Serving _). Served g.K.Keep c.args.moment (Pump c.args.line) s (Ok c.pump_nothing.result) (serving c.pump_nothing.new.self c.self.inside.framers)) (sym same)
    (told_served g.K.Keep c.args.moment (Pump c.args.line) c.self.inside.inner c.pump_nothing.new.self c.self.inside.framers c.pump_nothing.result c.pump_nothing.ensures.told c.pump_nothing.ensures.called)

pub returns-then-has_no_copies-clause-reads : goal.returns-then-has_no_copies-clause-reads
returns-then-has_no_copies-clause-reads g c =
    let same : c.args.self.now ≡ serving c.self.inside.inner c.self.inside.framers = search rules in
    subst (λ (s : Serving _). AskedAtMost PUMP_LIMIT (g.K.Keep.read_so_far s.running.keep) (g.K.Keep.read_so_far c.pump_nothing.new.self.keep)) (sym same)
    (asked_never g.K.Keep.read_so_far PUMP_LIMIT c.self.inside.inner.keep c.pump_nothing.new.self.keep (ap (λ (r : Running _). r.keep) c.pump_nothing.ensures.ok))

-- ---- the line isn't linked

pub invariant_of-self-then-not-has : goal.invariant_of-self-then-not-has
invariant_of-self-then-not-has g c = c.pass_over.ensures.lines c.self.inside.framers c.self.invariant

pub returns-then-not-has-clause-called : goal.returns-then-not-has-clause-called
returns-then-not-has-clause-called g c =
    let same : c.args.self.now ≡ serving c.self.inside.inner c.self.inside.framers = search rules in
    let none : has_row line_of c.args.line c.self.inside.framers ≡ false = search rules in
    subst (λ (s : Serving _). Served g.K.Keep c.args.moment (Pump c.args.line) s c.pass_over.result (serving c.pass_over.new.engine c.self.inside.framers)) (sym same)
    (c.pass_over.ensures.served c.args.line (Pump c.args.line) c.self.inside.framers
    (unlinked_line c.args.line c.self.inside.framers c.self.inside.inner.broker c.self.invariant none) refl)

pub returns-then-not-has-clause-reads : goal.returns-then-not-has-clause-reads
returns-then-not-has-clause-reads g c =
    let same : c.args.self.now ≡ serving c.self.inside.inner c.self.inside.framers = search rules in
    subst (λ (s : Serving _). AskedAtMost PUMP_LIMIT (g.K.Keep.read_so_far s.running.keep) (g.K.Keep.read_so_far c.pass_over.new.engine.keep)) (sym same)
    (asked_never g.K.Keep.read_so_far PUMP_LIMIT c.self.inside.inner.keep c.pass_over.new.engine.keep c.pass_over.ensures.keep)

-- ---- what waits is sent

pub invariant_of-self-2 : goal.invariant_of-self-2
invariant_of-self-2 g c =
    of_lines_called g.K.Keep c.args.moment (Pump c.args.line) c.self.inside.inner c.send_waiting-answer.new.self c.self.inside.framers c.end_closed.new.framers c.send_waiting-answer.result tt
    c.send_waiting-answer.ensures.called c.end_closed.ensures.held c.end_closed.ensures.kept c.self.invariant

pub returns-clause-unlinked : goal.returns-clause-unlinked
returns-clause-unlinked g c = λ none running.
    let same : c.args.self.now ≡ serving c.self.inside.inner c.self.inside.framers = search rules in
    let there : has_row line_of c.args.line c.self.inside.framers ≡ true = search rules in
    absurd (linked_line c.args.line c.self.inside.framers c.self.inside.inner.broker c.self.invariant there
    (ap (λ (s : Serving _). line_at c.args.line s.running.broker) (sym same) ∙ none))

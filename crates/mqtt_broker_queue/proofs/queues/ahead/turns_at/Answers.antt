use Rattle.std.proofs.Common.{◌≡◌, List, ap, sym, subst, ◌∙◌}
use Rattle.std.specs.Prelude.{IfOk}
use Rattle.mqtt_flow.specs.declared.outbound.entry.Turn.{Turn}
use Rattle.mqtt_rules.specs.step.Fitting.{pump_turns}
use Rattle.mqtt_rules.specs.step.State.{Broker}
use Rattle.mqtt_rules.specs.step.Step.{at_moment}
use Rattle.mqtt_broker_queue.proofs.queues_lemmas.SendingAhead.{no_line, no_birth, no_session, turns_are}
use Rattle.mqtt_broker_queue.proofs.queues.ahead.turns_at.Goals as goal

pub returns-in_default-clause-turns : goal.returns-in_default-clause-turns
returns-in_default-clause-turns c = c.new.ensures.items ∙ sym (no_line c.args.line (at_moment c.args.moment c.args.step.now.broker) (sym c.in_default.ensures))

pub returns-in_default-session-clause-turns : goal.returns-in_default-session-clause-turns
returns-in_default-session-clause-turns c =
    c.new-in_default-session.ensures.items
    ∙ sym (no_birth c.args.line (at_moment c.args.moment c.args.step.now.broker) c.in-Some.state.now (sym c.in-Some.ensures) (sym c.in_default-session.ensures))

pub returns-in_default-session-2-clause-turns : goal.returns-in_default-session-2-clause-turns
returns-in_default-session-2-clause-turns c =
    c.new-in_default-session-2.ensures.items
    ∙ sym (no_session c.args.line (at_moment c.args.moment c.args.step.now.broker) c.in-Some.state.now c.in-Some-session.birth (sym c.in-Some.ensures) (sym c.in-Some-session.ensures) (sym c.in_default-session-2.ensures))

pub returns-clause-turns : goal.returns-clause-turns
returns-clause-turns c =
    let b = c.args.step.now.broker in
    let l = c.in-Some.state.now in
    let x = c.in-Some-session-2.session.now in
    let are = turns_are c.args.line (at_moment c.args.moment b) l c.in-Some-session.birth x (sym c.in-Some.ensures) (sym c.in-Some-session.ensures) (sym c.in-Some-session-2.ensures) in
    subst (λ (ts : List Turn). IfOk c.pump_turns.result (λ turns. turns.items ≡ ts)) (ap (λ (d : Broker). pump_turns l d x) c.moment_at.ensures ∙ sym are) c.pump_turns.ensures.turns

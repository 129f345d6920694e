use Rattle.std.proofs.Common.{◌≡◌, rules, sym}
use Rattle.std.specs.Prelude.{None}
use Rattle.mqtt_records.specs.lists.Order.{row_at}
use Rattle.mqtt_broker_step.specs.Lines.{line_number}
use Rattle.mqtt_broker_step.proofs.Doing.{on_ok, if_err}
use Rattle.mqtt_broker_step.proofs.Inverse.{row_key}
use Rattle.mqtt_broker_acts.proofs.closing_lemmas.LineClosed.{lost_none, line_lost, lost_left}
use Rattle.mqtt_broker_acts.proofs.closing.leaving.lost.Goals as goal

pub returns-in_default-clause-ok : goal.returns-in_default-clause-ok
returns-in_default-clause-ok g c =
    let none : row_at line_number c.args.line c.args.step.now.broker.lines ≡ None = search rules in
    lost_none c.args.line c.args.step.now none

pub returns-clause-ok : goal.returns-clause-ok
returns-clause-ok g c =
    let l = c.in-Some.state.now in
    on_ok c.close.result (line_lost c.args.line l c.args.step.now c.close.new.step (sym c.in-Some.ensures))
    (c.close.ensures.ok l (row_key line_number c.args.line c.args.step.now.broker.lines l (sym c.in-Some.ensures)) (sym c.session-session.ensures))

pub returns-clause-left : goal.returns-clause-left
returns-clause-left g c =
    let l = c.in-Some.state.now in
    if_err c.close.result (λ fault. lost_left c.args.line l fault c.args.step.now c.close.new.step (sym c.in-Some.ensures))
    (c.close.ensures.left l (row_key line_number c.args.line c.args.step.now.broker.lines l (sym c.in-Some.ensures)) (sym c.session-session.ensures))

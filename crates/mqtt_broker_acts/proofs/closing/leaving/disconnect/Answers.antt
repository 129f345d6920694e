use Rattle.std.proofs.Common.{◌≡◌, true, false, rules, sym}
use Rattle.std.specs.Prelude.{None}
use Rattle.mqtt_rules.specs.step.Inbound.{is_late_expiry}
use Rattle.mqtt_rules.specs.step.State.{session_at}
use Rattle.mqtt_broker_step.proofs.Doing.{on_ok, if_err}
use Rattle.mqtt_broker_acts.proofs.closing_lemmas.LineClosed.{own_lawful, disconnect_none, disconnect_late, disconnect_late_left, disconnected, disconnect_left}
use Rattle.mqtt_broker_acts.proofs.closing.leaving.disconnect.Goals as goal

pub drop_line-requires-clause-lawful : goal.drop_line-requires-clause-lawful
drop_line-requires-clause-lawful g c =
    own_lawful c.args.birth c.args.step.now.broker.records c.requires.lawful

pub returns-in_default-clause-ok : goal.returns-in_default-clause-ok
returns-in_default-clause-ok g c = λ l number on.
    let none : session_at c.args.birth c.args.step.now.broker.records ≡ None = search rules in
    disconnect_none c.args.birth c.args.reason.0 c.args.expiry l c.args.step.now none

pub returns-then-is_late_expiry-clause-ok : goal.returns-then-is_late_expiry-clause-ok
returns-then-is_late_expiry-clause-ok g c = λ l number on.
    let x = c.in-Some.session.now in
    let late : is_late_expiry c.args.expiry x.expiry ≡ true = search rules in
    on_ok c.drop_line.result
    (disconnect_late c.args.birth c.args.reason.0 c.args.expiry l x c.args.step.now c.drop_line.new.step (sym c.in-Some.ensures) late)
    (c.drop_line.ensures.ok l number on)

pub returns-then-is_late_expiry-clause-left : goal.returns-then-is_late_expiry-clause-left
returns-then-is_late_expiry-clause-left g c = λ l number on.
    let x = c.in-Some.session.now in
    let late : is_late_expiry c.args.expiry x.expiry ≡ true = search rules in
    if_err c.drop_line.result
    (λ fault. disconnect_late_left c.args.birth c.args.reason.0 c.args.expiry l x fault c.args.step.now c.drop_line.new.step (sym c.in-Some.ensures) late)
    (c.drop_line.ensures.left l number on)

pub returns-clause-ok : goal.returns-clause-ok
returns-clause-ok g c = λ l number on.
    let x = c.in-Some.session.now in
    let late : is_late_expiry c.args.expiry x.expiry ≡ false = search rules in
    on_ok c.leave.result
    (disconnected c.args.birth c.args.reason.0 c.args.expiry l x c.args.step.now c.leave.new.step (sym c.in-Some.ensures) late)
    (c.leave.ensures.ok l number on)

pub returns-clause-left : goal.returns-clause-left
returns-clause-left g c = λ l number on.
    let x = c.in-Some.session.now in
    let late : is_late_expiry c.args.expiry x.expiry ≡ false = search rules in
    if_err c.leave.result
    (λ fault. disconnect_left c.args.birth c.args.reason.0 c.args.expiry l x fault c.args.step.now c.leave.new.step (sym c.in-Some.ensures) late)
    (c.leave.ensures.left l number on)

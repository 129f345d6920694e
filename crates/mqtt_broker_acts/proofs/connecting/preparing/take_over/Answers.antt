use Rattle.std.proofs.Common.{◌≡◌, rules, refl, sym, inr}
use Rattle.std.specs.Prelude.{None}
use Rattle.mqtt_rules.specs.step.State.{line_of}
use Rattle.mqtt_broker_step.proofs.Doing.{on_ok, if_err}
use Rattle.mqtt_broker_queue.proofs.publications_lemmas.Some.{does_some}
use Rattle.mqtt_broker_acts.proofs.closing_lemmas.LineClosed.{own_lawful}
use Rattle.mqtt_broker_acts.specs.connecting.Preparing.{takes_over}
use Rattle.mqtt_broker_acts.proofs.connecting_lemmas.Prepared.{over_none, over_done, over_left, over_once}
use Rattle.mqtt_broker_acts.proofs.connecting_lemmas.Steady.{line_is_of}
use Rattle.mqtt_broker_acts.proofs.connecting.preparing.take_over.Goals as goal

pub returns-in_default-clause-ok : goal.returns-in_default-clause-ok
returns-in_default-clause-ok g c =
    let s = c.args.step.now in
    let none : line_of c.args.birth s.broker ≡ None = search rules in
    does_some (takes_over c.args.birth) s s (over_none c.args.birth s none)

pub returns-in_default-clause-once : goal.returns-in_default-clause-once
returns-in_default-clause-once g c =
    let s = c.args.step.now in
    let none : line_of c.args.birth s.broker ≡ None = search rules in
    inr (over_none c.args.birth s none)

pub drop_line-requires-clause-lawful : goal.drop_line-requires-clause-lawful
drop_line-requires-clause-lawful g c = λ birth is. own_lawful c.args.birth c.args.step.now.broker.records c.requires.lawful birth is

pub returns-clause-ok : goal.returns-clause-ok
returns-clause-ok g c =
    let s = c.args.step.now in
    let l = c.in-Some.state.now in
    on_ok c.drop_line.result (over_done c.args.birth l s c.drop_line.new.step (sym c.in-Some.ensures))
    (c.drop_line.ensures.ok l (sym c.number-line.ensures) (line_is_of c.args.birth l s.broker (sym c.in-Some.ensures)))

pub returns-clause-left : goal.returns-clause-left
returns-clause-left g c =
    let s = c.args.step.now in
    let l = c.in-Some.state.now in
    if_err c.drop_line.result (λ fault. over_left c.args.birth l fault s c.drop_line.new.step (sym c.in-Some.ensures))
    (c.drop_line.ensures.left l (sym c.number-line.ensures) (line_is_of c.args.birth l s.broker (sym c.in-Some.ensures)))

pub returns-clause-once : goal.returns-clause-once
returns-clause-once g c =
    let s = c.args.step.now in
    let l = c.in-Some.state.now in
    on_ok c.drop_line.result (over_once c.args.birth l s c.drop_line.new.step (sym c.in-Some.ensures))
    (c.drop_line.ensures.once c.args.birth l refl (sym c.number-line.ensures) (line_is_of c.args.birth l s.broker (sym c.in-Some.ensures)))

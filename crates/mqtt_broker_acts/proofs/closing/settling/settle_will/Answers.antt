use Rattle.std.proofs.Common.{◌≡◌, rules, sym, true, false, inr}
use Rattle.std.specs.Prelude.{None}
use Rattle.mqtt_rules.specs.step.Closing.{has_due_will}
use Rattle.mqtt_rules.specs.step.State.{session_at}
use Rattle.mqtt_broker_step.proofs.Doing.{on_ok, if_err}
use Rattle.mqtt_broker_queue.proofs.publications_lemmas.Some.{does_some}
use Rattle.mqtt_broker_acts.specs.closing.Settling.{settles_will}
use Rattle.mqtt_broker_acts.proofs.closing_lemmas.Closed.{will_once}
use Rattle.mqtt_broker_acts.proofs.closing_lemmas.Settled.{no_session, will_waits, will_goes, will_goes_left, will_quiet, will_quiet_left}
use Rattle.mqtt_broker_acts.proofs.closing.settling.settle_will.Goals as goal

pub returns-in_default-clause-ok : goal.returns-in_default-clause-ok
returns-in_default-clause-ok g c =
    let s = c.args.step.now in
    let none : session_at c.args.birth s.broker.records ≡ None = search rules in
    does_some (settles_will c.args.moment c.args.birth) s s (no_session c.args.moment c.args.birth s none)

pub returns-then-not-has_due_will-clause-ok : goal.returns-then-not-has_due_will-clause-ok
returns-then-not-has_due_will-clause-ok g c =
    let s = c.args.step.now in
    let waits : has_due_will c.args.moment c.in-Some.session.now ≡ false = search rules in
    does_some (settles_will c.args.moment c.args.birth) s s (will_waits c.args.moment c.args.birth c.in-Some.session.now s (sym c.in-Some.ensures) waits)

pub returns-clause-ok : goal.returns-clause-ok
returns-clause-ok g c =
    let due : has_due_will c.args.moment c.in-Some.session.now ≡ true = search rules in
    on_ok c.publish_will.result (will_goes c.args.moment c.args.birth c.in-Some.session.now c.args.step.now c.publish_will.new.step (sym c.in-Some.ensures) due)
    c.publish_will.ensures.ok

pub returns-clause-left : goal.returns-clause-left
returns-clause-left g c =
    let due : has_due_will c.args.moment c.in-Some.session.now ≡ true = search rules in
    if_err c.publish_will.result (λ fault. will_goes_left c.args.moment c.args.birth c.in-Some.session.now fault c.args.step.now c.publish_will.new.step (sym c.in-Some.ensures) due)
    c.publish_will.ensures.left

pub returns-clause-quiet : goal.returns-clause-quiet
returns-clause-quiet g c = λ none.
    let due : has_due_will c.args.moment c.in-Some.session.now ≡ true = search rules in
    on_ok c.publish_will.result (will_quiet c.args.moment c.args.birth c.in-Some.session.now c.args.step.now c.publish_will.new.step (sym c.in-Some.ensures) due)
    (c.publish_will.ensures.quiet none)

pub returns-clause-quiet_left : goal.returns-clause-quiet_left
returns-clause-quiet_left g c = λ none.
    let due : has_due_will c.args.moment c.in-Some.session.now ≡ true = search rules in
    if_err c.publish_will.result (λ fault. will_quiet_left c.args.moment c.args.birth c.in-Some.session.now fault c.args.step.now c.publish_will.new.step (sym c.in-Some.ensures) due)
    (c.publish_will.ensures.quiet_left none)

pub returns-in_default-clause-once : goal.returns-in_default-clause-once
returns-in_default-clause-once g c =
    let s = c.args.step.now in
    let none : session_at c.args.birth s.broker.records ≡ None = search rules in
    inr (no_session c.args.moment c.args.birth s none)

pub returns-then-not-has_due_will-clause-once : goal.returns-then-not-has_due_will-clause-once
returns-then-not-has_due_will-clause-once g c =
    let s = c.args.step.now in
    let waits : has_due_will c.args.moment c.in-Some.session.now ≡ false = search rules in
    inr (will_waits c.args.moment c.args.birth c.in-Some.session.now s (sym c.in-Some.ensures) waits)

pub returns-clause-once : goal.returns-clause-once
returns-clause-once g c =
    let due : has_due_will c.args.moment c.in-Some.session.now ≡ true = search rules in
    on_ok c.publish_will.result (will_once c.args.moment c.args.birth c.in-Some.session.now c.args.step.now c.publish_will.new.step (sym c.in-Some.ensures) due)
    c.publish_will.ensures.once

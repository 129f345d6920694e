use Rattle.std.proofs.Common.{true, false, sym, ◌∙◌}
use Rattle.mqtt_broker_step.proofs.Doing.{on_ok, if_err}
use Rattle.mqtt_broker_acts.proofs.subscribing_lemmas.Unsubscribed.{whole_ok, whole_left}
use Rattle.mqtt_broker_acts.proofs.subscribing.unsubscribing.unsubscribe.Goals as goal

pub returns-then-is_open-clause-ok : goal.returns-then-is_open-clause-ok
returns-then-is_open-clause-ok c =
    let x = c.in-Some.session.now in
    on_ok c.refuse_all.result
    (whole_ok c.args.line c.args.birth x c.args.packet.now true c.args.step.now c.refuse_all.new.step (sym c.in-Some.ensures) (sym c.is_open.ensures ∙ c.if-is_open.true))
    (c.refuse_all.ensures.ok x)

pub returns-then-is_open-clause-left : goal.returns-then-is_open-clause-left
returns-then-is_open-clause-left c =
    let x = c.in-Some.session.now in
    if_err c.refuse_all.result
    (λ fault. whole_left c.args.line c.args.birth x c.args.packet.now true fault c.args.step.now c.refuse_all.new.step (sym c.in-Some.ensures) (sym c.is_open.ensures ∙ c.if-is_open.true))
    (c.refuse_all.ensures.left x)

pub returns-else-is_open-clause-ok : goal.returns-else-is_open-clause-ok
returns-else-is_open-clause-ok c =
    let x = c.in-Some.session.now in
    on_ok c.drop_all.result
    (whole_ok c.args.line c.args.birth x c.args.packet.now false c.args.step.now c.drop_all.new.step (sym c.in-Some.ensures) (sym c.is_open.ensures ∙ c.if-is_open.false))
    (c.drop_all.ensures.ok x (sym c.in-Some.ensures))

pub returns-else-is_open-clause-left : goal.returns-else-is_open-clause-left
returns-else-is_open-clause-left c =
    let x = c.in-Some.session.now in
    if_err c.drop_all.result
    (λ fault. whole_left c.args.line c.args.birth x c.args.packet.now false fault c.args.step.now c.drop_all.new.step (sym c.in-Some.ensures) (sym c.is_open.ensures ∙ c.if-is_open.false))
    (c.drop_all.ensures.left x (sym c.in-Some.ensures))

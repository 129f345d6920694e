use Rattle.std.proofs.Common.{◌∙◌}
use Rattle.mqtt_broker_step.proofs.Doing.{on_ok, if_err}
use Rattle.mqtt_broker_acts.proofs.closing_lemmas.Ticked.{told_silent, told_silent_left, closed_silent, closed_silent_left}
use Rattle.mqtt_broker_acts.proofs.closing.ticking.close_silent.Goals as goal

pub returns-in-Some-clause-ok : goal.returns-in-Some-clause-ok
returns-in-Some-clause-ok g c = λ l number on.
    on_ok c.drop_line.result (told_silent l c.in-Some.field-0 c.args.step.now c.drop_line.new.step (on ∙ c.in-Some.is)) (c.drop_line.ensures.ok l number on)

pub returns-in-Some-clause-left : goal.returns-in-Some-clause-left
returns-in-Some-clause-left g c = λ l number on.
    if_err c.drop_line.result (λ fault. told_silent_left l c.in-Some.field-0 fault c.args.step.now c.drop_line.new.step (on ∙ c.in-Some.is)) (c.drop_line.ensures.left l number on)

pub returns-in-None-clause-ok : goal.returns-in-None-clause-ok
returns-in-None-clause-ok g c = λ l number on.
    on_ok c.close.result (closed_silent l c.args.step.now c.close.new.step (on ∙ c.in-None.is)) (c.close.ensures.ok l number on)

pub returns-in-None-clause-left : goal.returns-in-None-clause-left
returns-in-None-clause-left g c = λ l number on.
    if_err c.close.result (λ fault. closed_silent_left l fault c.args.step.now c.close.new.step (on ∙ c.in-None.is)) (c.close.ensures.left l number on)

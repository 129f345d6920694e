use Rattle.std.proofs.Common.{◌∙◌}
use Rattle.mqtt_broker_step.proofs.Doing.{if_err, on_ok}
use Rattle.mqtt_broker_acts.proofs.calls_lemmas.SomeCalls.{on_line}
use Rattle.mqtt_broker_acts.proofs.calls_lemmas.Refused.{early_left, early_refused, late_left, late_refused}
use Rattle.mqtt_broker_acts.proofs.calls.refusing.refuse_packet.Goals as goal

pub drop_line-requires-clause-lawful : goal.drop_line-requires-clause-lawful
drop_line-requires-clause-lawful g c = λ birth is. c.requires.lawful birth

pub returns-in-Some-clause-ok : goal.returns-in-Some-clause-ok
returns-in-Some-clause-ok g c =
    let s = c.args.step.now in
    let h = on_line c.args.line c.args.session s.broker c.requires.on in
    on_ok c.drop_line.result
    (late_refused c.args.line c.args.code.0 c.fault_code-late.result.0 c.in-Some.birth c.args.is_connect c.args.session s c.drop_line.new.step h c.in-Some.is c.fault_code-late.ensures)
    (c.drop_line.ensures.ok h.l h.number (h.its ∙ c.in-Some.is))

pub returns-in-Some-clause-left : goal.returns-in-Some-clause-left
returns-in-Some-clause-left g c =
    let s = c.args.step.now in
    let h = on_line c.args.line c.args.session s.broker c.requires.on in
    if_err c.drop_line.result
    (λ fault. late_left c.args.line c.args.code.0 c.fault_code-late.result.0 c.in-Some.birth c.args.is_connect c.args.session fault s c.drop_line.new.step h c.in-Some.is c.fault_code-late.ensures)
    (c.drop_line.ensures.left h.l h.number (h.its ∙ c.in-Some.is))

pub returns-in-None-clause-ok : goal.returns-in-None-clause-ok
returns-in-None-clause-ok g c =
    let s = c.args.step.now in
    let h = on_line c.args.line c.args.session s.broker c.requires.on in
    on_ok c.refuse_first.result
    (early_refused c.args.line c.args.code.0 c.args.is_connect c.args.session s c.refuse_first.new.step h c.in-None.is)
    (c.refuse_first.ensures.ok h.l h.number (h.its ∙ c.in-None.is))

pub returns-in-None-clause-left : goal.returns-in-None-clause-left
returns-in-None-clause-left g c =
    let s = c.args.step.now in
    let h = on_line c.args.line c.args.session s.broker c.requires.on in
    if_err c.refuse_first.result
    (λ fault. early_left c.args.line c.args.code.0 c.args.is_connect c.args.session fault s c.refuse_first.new.step h c.in-None.is)
    (c.refuse_first.ensures.left h.l h.number (h.its ∙ c.in-None.is))

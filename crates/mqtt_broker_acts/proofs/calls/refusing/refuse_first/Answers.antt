use Rattle.std.proofs.Common.{sym, subst}
use Rattle.mqtt_records.specs.declared.state.records.Records.{Records}
use Rattle.mqtt_rules.specs.step.Routing.{subscribers}
use Rattle.mqtt_broker_step.proofs.Doing.{if_err, on_ok}
use Rattle.mqtt_broker_acts.proofs.calls_lemmas.Refused.{first_left, first_refused, records_told, untold_left}
use Rattle.mqtt_broker_acts.proofs.calls.refusing.refuse_first.Goals as goal

pub close-requires-clause-serves : goal.close-requires-clause-serves
close-requires-clause-serves g c =
    subst (λ (r : Records). g.R.Router.serves c.args.router.now (subscribers r))
    (sym (records_told c.args.line c.args.is_connect c.args.code.0 c.args.step.now c.tell_first.new.step c.in-Ok.ensures.ok)) c.requires.serves

pub close-requires-clause-lawful : goal.close-requires-clause-lawful
close-requires-clause-lawful g c = λ birth is. absurd cc

pub returns-in-Ok-clause-ok : goal.returns-in-Ok-clause-ok
returns-in-Ok-clause-ok g c = λ l number none.
    on_ok c.close.result
    (first_refused c.args.line c.args.code.0 c.args.is_connect l c.args.step.now c.tell_first.new.step c.close.new.step number c.in-Ok.ensures.ok)
    (c.close.ensures.ok l number none)

pub returns-in-Ok-clause-left : goal.returns-in-Ok-clause-left
returns-in-Ok-clause-left g c = λ l number none.
    if_err c.close.result
    (λ fault. first_left c.args.line c.args.code.0 c.args.is_connect l fault c.args.step.now c.tell_first.new.step c.close.new.step number c.in-Ok.ensures.ok)
    (c.close.ensures.left l number none)

pub returns-in-Err-clause-left : goal.returns-in-Err-clause-left
returns-in-Err-clause-left g c = λ l number none.
    untold_left c.args.line c.args.code.0 c.args.is_connect l c.in-Err.fault c.args.step.now c.tell_first.new.step number c.in-Err.ensures.left

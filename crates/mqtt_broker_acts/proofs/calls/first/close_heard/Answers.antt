use Rattle.std.specs.Prelude.{None}
use Rattle.mqtt_rules.specs.step.Routing.{subscribers}
use Rattle.mqtt_broker_step.proofs.Doing.{if_err, on_ok}
use Rattle.mqtt_broker_acts.proofs.calls_lemmas.SomeCalls.{on_line, unheard_left}
use Rattle.mqtt_broker_acts.proofs.calls_lemmas.Greeted.{at_heard, other_closes, other_left}
use Rattle.mqtt_broker_acts.proofs.calls.first.close_heard.Goals as goal

pub close-requires-clause-serves : goal.close-requires-clause-serves
close-requires-clause-serves g c =
    at_heard (λ r. g.R.Router.serves c.args.router.now (subscribers r)) c.args.line c.args.step.now c.hear.new.self c.in-Ok.ensures.ok c.requires.serves

pub close-requires-clause-lawful : goal.close-requires-clause-lawful
close-requires-clause-lawful g c = λ birth is. absurd cc

pub returns-in-Ok-clause-ok : goal.returns-in-Ok-clause-ok
returns-in-Ok-clause-ok g c = λ packet other.
    let s = c.args.step.now in
    let h = on_line c.args.line None s.broker c.requires.on in
    on_ok c.close.result
    (other_closes c.args.line packet s c.hear.new.self c.close.new.step h other c.in-Ok.ensures.ok)
    (c.close.ensures.ok h.l h.number h.its)

pub returns-in-Ok-clause-left : goal.returns-in-Ok-clause-left
returns-in-Ok-clause-left g c = λ packet other.
    let s = c.args.step.now in
    let h = on_line c.args.line None s.broker c.requires.on in
    if_err c.close.result
    (λ fault. other_left c.args.line packet fault s c.hear.new.self c.close.new.step h other c.in-Ok.ensures.ok)
    (c.close.ensures.left h.l h.number h.its)

pub returns-in-Err-clause-left : goal.returns-in-Err-clause-left
returns-in-Err-clause-left g c = λ packet other.
    let s = c.args.step.now in
    let h = on_line c.args.line None s.broker c.requires.on in
    unheard_left c.args.line None packet c.in-Err.fault s c.hear.new.self h c.in-Err.ensures.left

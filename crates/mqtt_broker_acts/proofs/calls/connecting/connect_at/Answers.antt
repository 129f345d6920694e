use Rattle.std.proofs.Common.{◌≡◌, rules, subst}
use Rattle.std.specs.Prelude.{None}
use Rattle.mqtt_broker_step.proofs.Doing.{if_err, on_ok}
use Rattle.mqtt_broker_acts.specs.declared.connecting.joining.Joined.{Joined}
use Rattle.mqtt_broker_acts.specs.declared.connecting.joining.Joined.TheVariants.{NoPlace}
use Rattle.mqtt_broker_acts.specs.calls.Doing.{begun}
use Rattle.mqtt_broker_acts.proofs.calls_lemmas.SomeCalls.{on_line}
use Rattle.mqtt_broker_acts.specs.calls.First.{GreetedBy}
use Rattle.mqtt_broker_acts.proofs.calls_lemmas.Greeted.{away_done, away_left}
use Rattle.mqtt_broker_acts.proofs.calls.connecting.connect_at.Goals as goal

pub returns-in-Ok-NoPlace-clause-ok : goal.returns-in-Ok-NoPlace-clause-ok
returns-in-Ok-NoPlace-clause-ok g c =
    let s = c.args.step.now in
    let first = begun s.limits c.args.moment s.broker in
    let h = on_line c.args.line None first.broker c.requires.on in
    let is : c.in-Ok-NoPlace.field-0 ≡ NoPlace = search rules in
    let away : GreetedBy c.args.line c.args.connect.now NoPlace first c.greet_at.new.step =
    subst (λ (j : Joined). GreetedBy c.args.line c.args.connect.now j first c.greet_at.new.step) is c.in-Ok-NoPlace.ensures.ok in
    on_ok c.turn_away_at.result
    (away_done c.args.line h.l c.args.connect.now c.args.moment s.limits s.broker c.greet_at.new.step c.turn_away_at.new.step h.number away.0 away.1 away.2)
    (c.turn_away_at.ensures.ok h.l h.number)

pub returns-in-Ok-NoPlace-clause-left : goal.returns-in-Ok-NoPlace-clause-left
returns-in-Ok-NoPlace-clause-left g c =
    let s = c.args.step.now in
    let first = begun s.limits c.args.moment s.broker in
    let h = on_line c.args.line None first.broker c.requires.on in
    let is : c.in-Ok-NoPlace.field-0 ≡ NoPlace = search rules in
    let away : GreetedBy c.args.line c.args.connect.now NoPlace first c.greet_at.new.step =
    subst (λ (j : Joined). GreetedBy c.args.line c.args.connect.now j first c.greet_at.new.step) is c.in-Ok-NoPlace.ensures.ok in
    if_err c.turn_away_at.result
    (λ fault. away_left c.args.line h.l c.args.connect.now c.args.moment s.limits s.broker fault c.greet_at.new.step c.turn_away_at.new.step h.number away.0 away.1 away.2)
    (c.turn_away_at.ensures.left h.l h.number)

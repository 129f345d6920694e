use Rattle.mqtt_rules.specs.step.Connect.{on_connect, prepare}
use Rattle.mqtt_broker_acts.proofs.connecting_lemmas.Instead.{memory_instead}
use Rattle.mqtt_broker_acts.proofs.connecting_lemmas.Standings.{connected, given_after, join_refused}
use Rattle.mqtt_broker_acts.proofs.connecting.standing.connect_crowded.Goals as goal

pub join-requires : goal.join-requires
join-requires g c = given_after c.args.connect.now c.args.step.now c.prepare.new.step c.in-Ok.ensures.ok c.requires.given

pub returns-in-Ok-clause-ok : goal.returns-in-Ok-clause-ok
returns-in-Ok-clause-ok g c = λ l number.
    let s = c.args.step.now in
    connected c.join.result l c.args.connect.now s c.prepare.new.step c.join.new.step c.requires.unrefused c.in-Ok.ensures.ok
    (λ choice p. c.join.ensures.whole l s choice number p)

pub returns-in-Ok-clause-left : goal.returns-in-Ok-clause-left
returns-in-Ok-clause-left g c = λ l number.
    let s = c.args.step.now in
    join_refused c.join.result l c.args.connect.now s c.prepare.new.step c.join.new.step c.requires.unrefused c.in-Ok.ensures.ok
    (λ choice p. c.join.ensures.whole_left l s choice number p)

pub returns-in-Err-clause-left : goal.returns-in-Err-clause-left
returns-in-Err-clause-left g c = λ l number.
    memory_instead (λ env. prepare env c.args.connect.now) (λ env. on_connect env l c.args.connect.now) c.in-Err.field-0 c.args.step.now c.prepare.new.step c.in-Err.ensures.left

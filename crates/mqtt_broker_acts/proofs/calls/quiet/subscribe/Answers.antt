use Rattle.std.proofs.Common.{sym, subst}
use Rattle.mqtt_broker_step.specs.Stepping.{Does, Leaves}
use Rattle.mqtt_broker_step.proofs.Doing.{if_err, on_ok}
use Rattle.mqtt_broker_acts.proofs.calls_lemmas.OnLine.{left_takes, on_line, some_takes}
use Rattle.mqtt_packet.specs.declared.codec.packet.Packet.TheVariants.{Subscribe}
use Rattle.mqtt_rules.specs.step.Deeds.{of_session}
use Rattle.mqtt_rules.specs.step.Subscribe.{on_subscribe}
use Rattle.mqtt_broker_queue.proofs.publications_lemmas.Some.{does_some, leaves_some}
use Rattle.mqtt_broker_acts.proofs.calls.quiet.subscribe.Goals as goal

pub returns-clause-ok : goal.returns-clause-ok
returns-clause-ok c =
    let s = c.args.step.now in
    let h = on_line c.args.line c.args.birth s.broker c.requires.client in
    on_ok c.subscribe.result
    (λ does. some_takes c.args.line c.args.birth (Subscribe c.args.packet.now) s c.subscribe.new.step h
    (does_some (λ env. of_session c.args.birth (λ x. on_subscribe env h.l.number x c.args.packet.now)) s c.subscribe.new.step (subst (λ n. Does (λ env. of_session c.args.birth (λ x. on_subscribe env n x c.args.packet.now)) s c.subscribe.new.step) (sym h.number) does)))
    c.subscribe.ensures.ok

pub returns-clause-left : goal.returns-clause-left
returns-clause-left c =
    let s = c.args.step.now in
    let h = on_line c.args.line c.args.birth s.broker c.requires.client in
    if_err c.subscribe.result
    (λ fault left. left_takes c.args.line c.args.birth (Subscribe c.args.packet.now) fault s c.subscribe.new.step h
    (leaves_some (λ env. of_session c.args.birth (λ x. on_subscribe env h.l.number x c.args.packet.now)) fault s c.subscribe.new.step (subst (λ n. Leaves (λ env. of_session c.args.birth (λ x. on_subscribe env n x c.args.packet.now)) fault s c.subscribe.new.step) (sym h.number) left)))
    c.subscribe.ensures.left

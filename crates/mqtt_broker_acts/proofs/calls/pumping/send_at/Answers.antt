use Rattle.std.proofs.Common.{ap, sym, ◌∙◌}
use Rattle.mqtt_rules.specs.step.Step.{Pump, deeds_of}
use Rattle.mqtt_broker_step.proofs.Doing.{if_err, on_ok}
use Rattle.mqtt_broker_step.specs.Stepping.{Stepping}
use Rattle.mqtt_broker_queue.proofs.publications_lemmas.Some.{does_some, leaves_some}
use Rattle.mqtt_broker_queue.specs.queues.Turning.{line_turns}
use Rattle.mqtt_broker_acts.proofs.calls_lemmas.SomeCalls.{again_some, limits_some, spent_some, start_some}
use Rattle.mqtt_broker_acts.proofs.calls_lemmas.Begun.{begun_is}
use Rattle.mqtt_broker_acts.proofs.calls.pumping.send_at.Goals as goal

pub send_turns-requires : goal.send_turns-requires
send_turns-requires c =
    let same = begun_is c.args.moment c.args.step.now c.begin.new.self c.requires.rest c.in-Ok.ensures.ok in
    c.requires.turns ∙ sym (ap (λ (t : Stepping). line_turns c.args.line t.broker) same)

pub returns-in-Ok-clause-called : goal.returns-in-Ok-clause-called
returns-in-Ok-clause-called c =
    let s = c.args.step.now in
    let s1 = c.begin.new.self in
    let s2 = c.send_turns.new.step in
    let same = begun_is c.args.moment s s1 c.requires.rest c.in-Ok.ensures.ok in
    again_some s.limits c.args.moment (Pump c.args.line) s.broker s1 s2 c.send_turns.result same (λ env. c.send_turns.ensures.again)
    (on_ok c.send_turns.result (λ did. does_some (λ env. deeds_of env (Pump c.args.line)) s1 s2 (λ choice. did)) c.send_turns.ensures.ok)

pub returns-in-Ok-clause-left : goal.returns-in-Ok-clause-left
returns-in-Ok-clause-left c =
    let s = c.args.step.now in
    let s1 = c.begin.new.self in
    let s2 = c.send_turns.new.step in
    let same = begun_is c.args.moment s s1 c.requires.rest c.in-Ok.ensures.ok in
    spent_some s.limits c.args.moment (Pump c.args.line) s.broker s1 s2 c.send_turns.result same
    (if_err c.send_turns.result (λ fault left. leaves_some (λ env. deeds_of env (Pump c.args.line)) fault s1 s2 (λ choice. left)) c.send_turns.ensures.left)

pub returns-in-Ok-clause-start : goal.returns-in-Ok-clause-start
returns-in-Ok-clause-start c =
    let s = c.args.step.now in
    let s1 = c.begin.new.self in
    let s2 = c.send_turns.new.step in
    let same = begun_is c.args.moment s s1 c.requires.rest c.in-Ok.ensures.ok in
    start_some s.limits c.args.moment (λ env. deeds_of env (Pump c.args.line)) s.broker s1 s2 c.send_turns.result same
    (on_ok c.send_turns.result (λ did. does_some (λ env. deeds_of env (Pump c.args.line)) s1 s2 (λ choice. did)) c.send_turns.ensures.ok)
    (if_err c.send_turns.result (λ fault left. leaves_some (λ env. deeds_of env (Pump c.args.line)) fault s1 s2 (λ choice. left)) c.send_turns.ensures.left)

pub returns-in-Ok-clause-limits : goal.returns-in-Ok-clause-limits
returns-in-Ok-clause-limits c =
    let s = c.args.step.now in
    let s1 = c.begin.new.self in
    let s2 = c.send_turns.new.step in
    let same = begun_is c.args.moment s s1 c.requires.rest c.in-Ok.ensures.ok in
    limits_some s.limits c.args.moment (λ env. deeds_of env (Pump c.args.line)) s.broker s1 s2 c.send_turns.result same
    (on_ok c.send_turns.result (λ did. does_some (λ env. deeds_of env (Pump c.args.line)) s1 s2 (λ choice. did)) c.send_turns.ensures.ok)
    (if_err c.send_turns.result (λ fault left. leaves_some (λ env. deeds_of env (Pump c.args.line)) fault s1 s2 (λ choice. left)) c.send_turns.ensures.left)

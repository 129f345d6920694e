use Rattle.std.proofs.Common.{◌≡◌, rules, false}
use Rattle.mqtt_broker.proofs.engine_lemmas.Serving.{passed_served, rested_lines}
use Rattle.mqtt_broker.proofs.engine.asking.pass_over.Goals as goal

pub returns-clause-served : goal.returns-clause-served
returns-clause-served g c = λ line call held none on.
    let running : c.args.engine.now.stopped ≡ false = search rules in
    let holds = c.is_stopped.ensures.stored running in
    passed_served g.K.Keep c.args.moment c.args.engine.now running holds
    line call held c.rest_at.new.self c.rest_at.result none on c.rest_at.ensures.told c.rest_at.ensures.ok

pub returns-clause-lines : goal.returns-clause-lines
returns-clause-lines g c = λ held lines. rested_lines c.args.moment c.args.engine.now c.rest_at.new.self held c.rest_at.ensures.ok lines

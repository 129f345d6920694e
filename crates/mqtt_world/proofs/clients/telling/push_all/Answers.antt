use Rattle.mqtt_world.proofs.clients_lemmas.Told.{all_left, all_told, one_more_told}
use Rattle.mqtt_world.proofs.clients.telling.push_all.Goals as goal

pub loop-output-init : goal.loop-output-init
loop-output-init g c = λ packets meant are spelled reads.
    all_left c.args.number c.args.engine.now.broker packets meant c.args.line.now spelled reads

pub loop-output-preserved : goal.loop-output-preserved
loop-output-preserved g c = λ packets meant are spelled reads.
    let l = c.loop-output in
    one_more_told c.args.number c.args.engine.now.broker packets meant c.args.outputs.now l.output-index c.output-item.result
    c.args.line.now l.line c.push_if.new.line are c.loop-output-test.true c.output-item.is
    (l.invariant packets meant are spelled reads) (λ x ms spelling is each. c.in_ok-push_if.ensures x ms spelling is each)

pub returns : goal.returns
returns g c = λ packets meant are spelled reads.
    let l = c.loop-output in
    all_told c.args.number c.args.engine.now.broker packets meant c.args.outputs.now l.output-index c.args.line.now l.line
    are c.loop-output-test.false (l.invariant packets meant are spelled reads)

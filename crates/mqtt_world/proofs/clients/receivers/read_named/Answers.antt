use Rattle.mqtt_world.specs.clients.Ends.{if_receiver, receiver_reads_at}
use Rattle.mqtt_world.proofs.clients_lemmas.Many.{one_more}
use Rattle.mqtt_world.proofs.clients.receivers.read_named.Goals as goal

pub loop-receiver-preserved : goal.loop-receiver-preserved
loop-receiver-preserved g c =
    let l = c.loop-receiver in
    let from = c.deref_mut-receiver-items in
    one_more (if_receiver c.args.client.now (receiver_reads_at c.args.engine.now.broker)) c.args.receivers.now.items from.result.now l.receiver-items l.receiver-index c.receiver-item.result
    c.read_if.new.receiver from.ensures.value l.auto.receiver-items c.loop-receiver-test.true l.invariant c.in_ok-read_if.ensures

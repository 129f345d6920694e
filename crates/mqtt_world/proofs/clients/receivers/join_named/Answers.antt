use Rattle.mqtt_world.specs.clients.Ends.{if_receiver, receiver_joined}
use Rattle.mqtt_world.proofs.clients_lemmas.Many.{one_more}
use Rattle.mqtt_world.proofs.clients.receivers.join_named.Goals as goal

pub loop-receiver-preserved : goal.loop-receiver-preserved
loop-receiver-preserved c =
    let l = c.loop-receiver in
    let from = c.deref_mut-receiver-items in
    one_more (if_receiver c.args.client.now (receiver_joined c.args.number c.args.clean)) c.args.receivers.now.items from.result.now l.receiver-items l.receiver-index c.receiver-item.result
    c.join_if.new.receiver from.ensures.value l.auto.receiver-items c.loop-receiver-test.true l.invariant c.in_ok-join_if.ensures

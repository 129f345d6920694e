use Rattle.mqtt_world_ends.specs.peers.Receivers.{wish_of}
use Rattle.mqtt_world.specs.clients.Ends.{asks_at, if_receiver}
use Rattle.mqtt_world.proofs.clients_lemmas.Many.{one_more}
use Rattle.mqtt_world.proofs.clients.receivers.ask_named.Goals as goal

pub loop-receiver-preserved : goal.loop-receiver-preserved
loop-receiver-preserved g c =
    let l = c.loop-receiver in
    let from = c.deref_mut-receiver-items in
    one_more (if_receiver c.args.client.now (asks_at (wish_of c.args.wish.now) c.args.engine.now.broker)) c.args.receivers.now.items from.result.now l.receiver-items l.receiver-index c.receiver-item.result
    c.ask_if.new.receiver from.ensures.value l.auto.receiver-items c.loop-receiver-test.true l.invariant c.in_ok-ask_if.ensures

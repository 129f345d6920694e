use Rattle.mqtt_world.specs.clients.Ends.{if_publisher, publisher_joined}
use Rattle.mqtt_world.proofs.clients_lemmas.Many.{one_more}
use Rattle.mqtt_world.proofs.clients.publishers.join_named.Goals as goal

pub loop-publisher-preserved : goal.loop-publisher-preserved
loop-publisher-preserved c =
    let l = c.loop-publisher in
    let from = c.deref_mut-publisher-items in
    one_more (if_publisher c.args.client.now (publisher_joined c.args.number c.args.clean)) c.args.publishers.now.items from.result.now l.publisher-items l.publisher-index c.publisher-item.result
    c.join_if.new.publisher from.ensures.value l.auto.publisher-items c.loop-publisher-test.true l.invariant c.in_ok-join_if.ensures

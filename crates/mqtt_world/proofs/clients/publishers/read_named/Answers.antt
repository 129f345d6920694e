use Rattle.mqtt_world.specs.clients.Ends.{if_publisher, publisher_reads_at}
use Rattle.mqtt_world.proofs.clients_lemmas.Many.{one_more}
use Rattle.mqtt_world.proofs.clients.publishers.read_named.Goals as goal

pub loop-publisher-preserved : goal.loop-publisher-preserved
loop-publisher-preserved g c =
    let l = c.loop-publisher in
    let from = c.deref_mut-publisher-items in
    one_more (if_publisher c.args.client.now (publisher_reads_at c.args.engine.now.broker)) c.args.publishers.now.items from.result.now l.publisher-items l.publisher-index c.publisher-item.result
    c.read_if.new.publisher from.ensures.value l.auto.publisher-items c.loop-publisher-test.true l.invariant c.in_ok-read_if.ensures

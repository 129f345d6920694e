use Rattle.mqtt_world.specs.clients.Ends.{if_publisher, on_publisher_line}
use Rattle.mqtt_world.specs.clients.Lines.{changed}
use Rattle.mqtt_world.proofs.clients_lemmas.Many.{one_more}
use Rattle.mqtt_world.proofs.clients.publishers.change_named.Goals as goal

pub loop-publisher-preserved : goal.loop-publisher-preserved
loop-publisher-preserved c =
    let l = c.loop-publisher in
    let from = c.deref_mut-publisher-items in
    one_more (if_publisher c.args.client.now (on_publisher_line (changed c.args.change))) c.args.publishers.now.items from.result.now l.publisher-items l.publisher-index c.publisher-item.result
    c.change_if.new.publisher from.ensures.value l.auto.publisher-items c.loop-publisher-test.true l.invariant c.change_if.ensures

use Rattle.mqtt_world_model.specs.model.World.{publisher_restarted}
use Rattle.mqtt_world.proofs.clients_lemmas.Many.{one_more}
use Rattle.mqtt_world.proofs.clients.publishers.restart.Goals as goal

pub loop-publisher-preserved : goal.loop-publisher-preserved
loop-publisher-preserved c =
    let l = c.loop-publisher in
    let from = c.deref_mut-publisher-items in
    one_more (publisher_restarted) c.args.publishers.now.items from.result.now l.publisher-items l.publisher-index c.publisher-item.result
    c.restart_one.new.publisher from.ensures.value l.auto.publisher-items c.loop-publisher-test.true l.invariant c.restart_one.ensures

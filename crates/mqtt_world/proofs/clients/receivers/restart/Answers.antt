use Rattle.mqtt_world_model.specs.model.World.{receiver_restarted}
use Rattle.mqtt_world.proofs.clients_lemmas.Many.{one_more}
use Rattle.mqtt_world.proofs.clients.receivers.restart.Goals as goal

pub loop-receiver-preserved : goal.loop-receiver-preserved
loop-receiver-preserved c =
    let l = c.loop-receiver in
    let from = c.deref_mut-receiver-items in
    one_more (receiver_restarted) c.args.receivers.now.items from.result.now l.receiver-items l.receiver-index c.receiver-item.result
    c.restart_one.new.receiver from.ensures.value l.auto.receiver-items c.loop-receiver-test.true l.invariant c.restart_one.ensures

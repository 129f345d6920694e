use Rattle.mqtt_world.specs.clients.Ends.{if_receiver, on_receiver_line}
use Rattle.mqtt_world.specs.clients.Lines.{changed}
use Rattle.mqtt_world.proofs.clients_lemmas.Many.{one_more}
use Rattle.mqtt_world.proofs.clients.receivers.change_named.Goals as goal

pub loop-receiver-preserved : goal.loop-receiver-preserved
loop-receiver-preserved c =
    let l = c.loop-receiver in
    let from = c.deref_mut-receiver-items in
    one_more (if_receiver c.args.client.now (on_receiver_line (changed c.args.change))) c.args.receivers.now.items from.result.now l.receiver-items l.receiver-index c.receiver-item.result
    c.change_if.new.receiver from.ensures.value l.auto.receiver-items c.loop-receiver-test.true l.invariant c.change_if.ensures

use Rattle.mqtt_world_model.specs.model.Ends.{Receiver}
use Rattle.mqtt_world_model.specs.model.World.{receiver_told}
use Rattle.mqtt_world_laws.specs.knowing.Knowing.{IsUnderstood}
use Rattle.mqtt_world.proofs.clients_lemmas.Many.{one_more_of}
use Rattle.mqtt_world.proofs.clients.receivers.tell.Goals as goal

pub loop-receiver-preserved : goal.loop-receiver-preserved
loop-receiver-preserved g c = λ told tells spelled goes.
    let l = c.loop-receiver in
    let from = c.deref_mut-receiver-items in
    one_more_of (λ (x : Receiver). IsUnderstood told.wires told.outputs x.line.number x.line.known) (receiver_told c.args.engine.now.broker told) c.args.receivers.now.items from.result.now l.receiver-items l.receiver-index
    c.receiver-item.result c.tell_one.new.receiver from.ensures.value l.auto.receiver-items c.loop-receiver-test.true
    (l.invariant told tells spelled goes) goes (λ its. c.in_ok-tell_one.ensures told tells spelled its)

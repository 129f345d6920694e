use Rattle.mqtt_world_model.specs.model.Ends.{Publisher}
use Rattle.mqtt_world_model.specs.model.World.{publisher_told}
use Rattle.mqtt_world_laws.specs.knowing.Knowing.{IsUnderstood}
use Rattle.mqtt_world.proofs.clients_lemmas.Many.{one_more_of}
use Rattle.mqtt_world.proofs.clients.publishers.tell.Goals as goal

pub loop-publisher-preserved : goal.loop-publisher-preserved
loop-publisher-preserved g c = λ told tells spelled goes.
    let l = c.loop-publisher in
    let from = c.deref_mut-publisher-items in
    one_more_of (λ (x : Publisher). IsUnderstood told.wires told.outputs x.line.number x.line.known) (publisher_told c.args.engine.now.broker told) c.args.publishers.now.items from.result.now l.publisher-items l.publisher-index
    c.publisher-item.result c.tell_one.new.publisher from.ensures.value l.auto.publisher-items c.loop-publisher-test.true
    (l.invariant told tells spelled goes) goes (λ its. c.in_ok-tell_one.ensures told tells spelled its)

use Rattle.std.proofs.Common.{◌∙◌, ap, arith}
use Rattle.mqtt_flow.specs.outbound.Queue.{greatest_given}
use Rattle.mqtt_flow.proofs.outbound_lemmas.outbound.Room.{pump-orders}
use Rattle.mqtt_flow.proofs.outbound.outflow.Outflow.pump.Goals as goal

pub take_all-requires : goal.take_all-requires
take_all-requires c =
    let turns = ap greatest_given (c.deref.ensures.value ∙ c.in_ok-turns.ensures.turns) in
    let orders = pump-orders c.args.way c.args.self.now.queue in
    omega arith

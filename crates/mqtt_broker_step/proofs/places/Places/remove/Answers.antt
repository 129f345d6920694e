use Rattle.std.specs.Prelude.{vec_capacity}
use Rattle.mqtt_broker_step.proofs.PlaceLists.{kept-remove}
use Rattle.mqtt_broker_step.proofs.places.Places.remove.Goals as goal

pub invariant_of-self : goal.invariant_of-self
invariant_of-self c =
    kept-remove c.self.inside.ascends c.args.index c.self.inside.places.items c.remove.new.self.items (vec_capacity c.self.inside.places) (vec_capacity c.remove.new.self)
    c.self.invariant c.remove.ensures.items c.remove.ensures.capacity

use Rattle.std.specs.Prelude.{vec_capacity}
use Rattle.mqtt_broker_step.proofs.PlaceLists.{kept-take}
use Rattle.mqtt_broker_step.proofs.places.Places.pop.Goals as goal

pub invariant_of-self : goal.invariant_of-self
invariant_of-self c =
    kept-take c.self.inside.ascends _ c.self.inside.places.items c.pop.new.self.items (vec_capacity c.self.inside.places) (vec_capacity c.pop.new.self)
    c.self.invariant c.pop.ensures.rest c.pop.ensures.capacity

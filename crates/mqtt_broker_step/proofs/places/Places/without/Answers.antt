use Rattle.std.proofs.Common.{◌≡◌, ◌+◌, ◌≤◌, length, ap, subst, ◌∙◌}
use Rattle.std.specs.Prelude.{vec_capacity}
use Rattle.mqtt_flow.specs.inbound.Identifiers.{ids_without}
use Rattle.mqtt_broker_step.specs.Places.{room_for}
use Rattle.mqtt_broker_step.proofs.PlaceLists.{kept-without}
use Rattle.mqtt_broker_step.proofs.places.Places.without.Goals as goal

pub invariant_of-result : goal.invariant_of-result
invariant_of-result c =
    let left : c.drop_place.new.places.items ≡ ids_without c.args.place c.self.inside.places.items =
    c.drop_place.ensures.items ∙ ap (ids_without c.args.place) (c.in_ok-places.ensures.items ∙ c.deref.ensures.value) in
    let roomy : room_for (length c.self.inside.places.items + 1) ≤ vec_capacity c.drop_place.new.places =
    rw c.drop_place.ensures.room (subst (λ xs. room_for (length xs + 1) ≤ vec_capacity c.in_ok-places.places) c.deref.ensures.value c.in_ok-places.ensures.roomy) in
    kept-without c.self.inside.ascends c.args.place c.self.inside.places.items c.drop_place.new.places.items (vec_capacity c.drop_place.new.places)
    c.self.invariant.ascending left roomy

pub returns : goal.returns
returns c =
    c.drop_place.ensures.items ∙ ap (ids_without c.args.place) (c.in_ok-places.ensures.items ∙ (c.deref.ensures.value ∙ c.self.view_is))

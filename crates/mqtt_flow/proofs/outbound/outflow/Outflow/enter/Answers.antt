use Rattle.std.proofs.Common.{◌∙◌, ap, arith, length}
use Rattle.mqtt_flow.specs.outbound.Queue.{greatest_given, after_all, greatest_place}
use Rattle.mqtt_flow.specs.outbound.Outbound.{way_made}
use Rattle.mqtt_flow.proofs.outbound_lemmas.outbound.Room.{way_made-orders}
use Rattle.mqtt_flow.proofs.outbound.outflow.Outflow.enter.Goals as goal

pub take_all-requires : goal.take_all-requires
take_all-requires c =
    let turns = ap greatest_given (c.deref.ensures.value ∙ c.in_ok-turns.ensures.turns) in
    let none = way_made-orders c.args.limits c.args.since c.args.self.now.queue in
    omega arith

pub add-requires-clause-few : goal.add-requires-clause-few
add-requires-clause-few c =
    let limits = c.args.limits in
    let since = c.args.since in
    let queue = c.args.self.now.queue in
    let made = c.take_all.ensures.queue ∙ ap (λ ts. after_all ts c.make_room.new.self.queue) (c.deref.ensures.value ∙ c.in_ok-turns.ensures.turns) ∙ ap (λ q. after_all (way_made limits since queue) q) c.make_room.ensures.queue in
    let few = c.in_ok-turns.ensures.below in
    let long = ap length made in
    omega arith

pub add-requires-clause-place : goal.add-requires-clause-place
add-requires-clause-place c =
    let limits = c.args.limits in
    let since = c.args.since in
    let queue = c.args.self.now.queue in
    let made = c.take_all.ensures.queue ∙ ap (λ ts. after_all ts c.make_room.new.self.queue) (c.deref.ensures.value ∙ c.in_ok-turns.ensures.turns) ∙ ap (λ q. after_all (way_made limits since queue) q) c.make_room.ensures.queue in
    let low = c.requires.place c.in_ok-turns.ensures.only in
    let place = ap greatest_place made in
    omega arith

use Rattle.std.proofs.Common.{◌-◌, ◌<◌, ◌≤◌, length, subst, sym, ap, ◌∙◌, arith}
use Rattle.std.specs.Prelude.{nat_le}
use Rattle.std.specs.Vec.{vec_capacity, vec_len}
use Rattle.std.proofs.lemmas.Result.{err_from_is_err_and, on_ok_weaker, on_err_weaker}
use Rattle.mqtt_routes.specs.routing.Subscriptions.{filters_of, room_of}
use Rattle.mqtt_routes.specs.routing.Spots.{IsIndex}
use Rattle.mqtt_routes.proofs.routing_lemmas.RoomLemmas.{length-filters_of}
use Rattle.mqtt_routes.proofs.routing_lemmas.RoomWithinLemmas.{by_result, room_within, both_rooms, less_room, less_most}
use Rattle.mqtt_routes.proofs.routing_lemmas.PutIndexLemmas.{stood_index}
use Rattle.mqtt_routes.proofs.routing.subscription_tree.SubscriptionTreeSubscriptionTable.make_room.Goals as goal

pub invariant_of-self-2 : goal.invariant_of-self-2
invariant_of-self-2 c =
    let old = c.self.inside.subscribers.sessions in
    let spots = c.self.inside.spots.items in
    subst (IsIndex c.make_room.new.self.sessions) (sym c.in_ok-reserve.ensures.items) (by_result c.make_room.result
    (on_ok_weaker c.make_room.result (λ e. subst (λ ss. IsIndex ss spots) (sym e) (stood_index c.args.birth (filters_of c.args.new.now) old spots c.show_order.ensures c.self.invariant)) c.make_room.ensures.ok)
    (on_err_weaker c.make_room.result (λ e. subst (λ ss. IsIndex ss spots) (sym e) c.self.invariant) c.make_room.ensures.err))

pub returns-clause-room : goal.returns-clause-room
returns-clause-room c =
    let b = c.args.birth in
    let n = length (filters_of c.args.new.now) in
    let v = c.reserve.new.self in
    let most = vec_capacity v - vec_len v in
    let enough : n ≤ most = omega (arith, length-filters_of c.args.new.now, c.in_ok-reserve.ensures.ok) in
    on_ok_weaker c.make_room.result
    (λ made. ap (nat_le n) (room_within b most c.make_room.new.self.room) ∙ both_rooms n (room_of b c.make_room.new.self.room) most made enough)
    c.make_room.ensures.room

pub returns-in_err-reserve-clause-memory : goal.returns-in_err-reserve-clause-memory
returns-in_err-reserve-clause-memory c =
    let b = c.args.birth in
    let n = length (filters_of c.args.new.now) in
    let v = c.self.inside.spots in
    let most = vec_capacity v - vec_len v in
    let rooms = c.self.inside.subscribers.room in
    let lacks : most < n = omega (arith, length-filters_of c.args.new.now, c.in_err-reserve.ensures.full) in
    let p = err_from_is_err_and c.from_residual.result c.from_residual.ensures.1 in
    rw p.1 (ap (λ (h : _). nat_le n (room_of b h.room)) (sym c.self.view_is) ∙ ap (nat_le n) (room_within b most rooms) ∙ less_most n (room_of b rooms) most lacks)

pub returns-clause-memory : goal.returns-clause-memory
returns-clause-memory c =
    let b = c.args.birth in
    let n = length (filters_of c.args.new.now) in
    let v = c.self.inside.spots in
    let most = vec_capacity v - vec_len v in
    let rooms = c.self.inside.subscribers.room in
    on_err_weaker c.make_room.result
    (λ lacks. ap (λ (h : _). nat_le n (room_of b h.room)) (sym c.self.view_is) ∙ ap (nat_le n) (room_within b most rooms) ∙ less_room n (room_of b rooms) most lacks)
    c.make_room.ensures.memory

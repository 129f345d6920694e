use Rattle.std.proofs.Common.{◌≡◌, ◌-◌, ◌<◌, ◌≤◌, suc, true, false, length, insert, subst, sym, ap, ◌∙◌, arith}
use Rattle.std.specs.Prelude.{nat_le}
use Rattle.std.specs.Vec.{vec_capacity, vec_len}
use Rattle.std.proofs.lemmas.Result.{err_from_is_err_and, on_ok_weaker, on_err_weaker}
use Rattle.mqtt_base.specs.declared.limits.TheConstants.{SUBSCRIPTION_LIMIT}
use Rattle.mqtt_routes.specs.tree.Tree.{AreOrdered, IsPlace}
use Rattle.mqtt_topic.specs.names.Filters.{matching_part_of}
use Rattle.mqtt_routes.specs.declared.routing.spot.Spot.{Spot}
use Rattle.mqtt_routes.specs.routing.Subscriptions.{has_filter, subs_of, room_of, subscribed}
use Rattle.mqtt_routes.specs.routing.Spots.{IsIndex, texts_of}
use Rattle.mqtt_routes.proofs.routing_lemmas.IndexLemmas.{ordered_from}
use Rattle.mqtt_routes.proofs.routing_lemmas.RoomWithinLemmas.{by_result, room_within, both_rooms, room_there, most_there}
use Rattle.mqtt_routes.proofs.routing_lemmas.PutIndexLemmas.{replaced_index, put_index}
use Rattle.mqtt_routes.proofs.routing.subscription_tree.SubscriptionTreeSubscriptionTable.subscribe.Goals as goal

pub place-number-requires : goal.place-number-requires
place-number-requires c = record {
  ordered = subst (λ items. AreOrdered (texts_of c.self.inside.subscribers.sessions items)) (sym c.in_ok-reserve.ensures.items) (ordered_from (texts_of c.self.inside.subscribers.sessions c.self.inside.spots.items) c.self.invariant.rising);
}

pub invariant_of-self : goal.invariant_of-self
invariant_of-self c =
    let b = c.args.birth in
    let s = c.args.subscription in
    let old = c.self.inside.subscribers.sessions in
    let spots = c.self.inside.spots.items in
    let has : has_filter s.filter (subs_of b old) ≡ true = ap (λ f. has_filter f (subs_of b old)) (sym c.as_str.ensures.value) ∙ sym c.number.ensures.found ∙ sym c.is_some.ensures ∙ c.if-is_some.true in
    by_result c.subscribe.result
    (on_ok_weaker c.subscribe.result (λ e. subst (λ ss. IsIndex ss spots) (sym e) (replaced_index b s old spots c.show_order.ensures c.self.invariant has)) c.subscribe.ensures.ok)
    (on_err_weaker c.subscribe.result (λ e. subst (λ ss. IsIndex ss spots) (sym e) c.self.invariant) c.subscribe.ensures.err)

pub returns-then-is_some-clause-memory : goal.returns-then-is_some-clause-memory
returns-then-is_some-clause-memory c = λ rest h.
    let b = c.args.birth in
    let n = suc (length rest) in
    let v = c.self.inside.spots in
    let most = vec_capacity v - vec_len v in
    let rooms = c.self.inside.subscribers.room in
    c.subscribe.ensures.memory rest (room_there n (room_of b rooms) most (sym (ap (nat_le n) (room_within b most rooms)) ∙ ap (λ (x : _). nat_le n (room_of b x.room)) c.self.view_is ∙ h))

pub returns-then-is_some-clause-room : goal.returns-then-is_some-clause-room
returns-then-is_some-clause-room c = λ rest h.
    let b = c.args.birth in
    let n = suc (length rest) in
    let v = c.self.inside.spots in
    let most = vec_capacity v - vec_len v in
    let rooms = c.self.inside.subscribers.room in
    let all = sym (ap (nat_le n) (room_within b most rooms)) ∙ ap (λ (x : _). nat_le n (room_of b x.room)) c.self.view_is ∙ h in
    let enough : length rest ≤ most = let m = most_there n (room_of b rooms) most all in omega (arith, m) in
    ap (nat_le (length rest)) (room_within b most c.subscribe.new.self.room)
    ∙ both_rooms (length rest) (room_of b c.subscribe.new.self.room) most (c.subscribe.ensures.room rest (room_there n (room_of b rooms) most all)) enough

pub returns-then-at-ge-SUBSCRIPTION_LIMIT-clause-refused : goal.returns-then-at-ge-SUBSCRIPTION_LIMIT-clause-refused
returns-then-at-ge-SUBSCRIPTION_LIMIT-clause-refused c =
    let b = c.args.birth in
    let s = c.args.subscription in
    let ss = ap (λ (x : _). subs_of b x.sessions) c.self.view_is in (
      sym (ap (λ f. has_filter f (subs_of b c.self.inside.subscribers.sessions)) c.as_str.ensures.value ∙ ap (has_filter s.filter) ss) ∙ sym c.number.ensures.found ∙ sym c.is_some.ensures ∙ c.if-is_some.false,
      sym (ap length ss) ∙ sym c.count-at.ensures.count ∙ (let l = c.if-at-ge-SUBSCRIPTION_LIMIT.true in let m = c.count-at.ensures.most in omega (arith, l, m)),
    )

pub returns-in_err-reserve-clause-memory : goal.returns-in_err-reserve-clause-memory
returns-in_err-reserve-clause-memory c = λ rest h.
    let b = c.args.birth in
    let n = suc (length rest) in
    let v = c.self.inside.spots in
    let most = vec_capacity v - vec_len v in
    let rooms = c.self.inside.subscribers.room in
    let enough = most_there n (room_of b rooms) most (sym (ap (nat_le n) (room_within b most rooms)) ∙ ap (λ (x : _). nat_le n (room_of b x.room)) c.self.view_is ∙ h) in
    absurd (omega (arith, enough, c.in_err-reserve.ensures.full))

pub invariant_of-self-3 : goal.invariant_of-self-3
invariant_of-self-3 c =
    let b = c.args.birth in
    let s = c.args.subscription in
    let old = c.self.inside.subscribers.sessions in
    let spots = c.self.inside.spots.items in
    let none : has_filter s.filter (subs_of b old) ≡ false = ap (λ f. has_filter f (subs_of b old)) (sym c.as_str.ensures.value) ∙ sym c.number.ensures.found ∙ sym c.is_some.ensures ∙ c.if-is_some.false in
    let is = subst (λ items. IsPlace (texts_of old items) (matching_part_of s.filter) c.place-number.result) c.in_ok-reserve.ensures.items c.place-number.ensures in
    let put = put_index b s old spots c.show_order.ensures c.self.invariant none c.place-number.result is in
    subst (λ ss. IsIndex ss c.insert.new.self.items) (sym c.in_ok-subscribe.ensures.ok)
    (subst (IsIndex (subscribed b s old)) (sym (c.in_ok-insert.ensures.items ∙ ap (λ items. insert items c.place-number.result (let x : Spot = record { birth = b; at = c.count-at.result } in x)) c.in_ok-reserve.ensures.items ∙ ap (λ n. insert spots c.place-number.result (let x : Spot = record { birth = b; at = n } in x)) c.count-at.ensures.count)) put)

pub returns-in_err-reserve-clause-refused : goal.returns-in_err-reserve-clause-refused
returns-in_err-reserve-clause-refused c =
    let b = c.args.birth in
    let s = c.args.subscription in
    let ss = ap (λ (x : _). subs_of b x.sessions) c.self.view_is in
    let none = sym (ap (λ f. has_filter f (subs_of b c.self.inside.subscribers.sessions)) c.as_str.ensures.value ∙ ap (has_filter s.filter) ss) ∙ sym c.number.ensures.found ∙ sym c.is_some.ensures ∙ c.if-is_some.false in
    let less : length (subs_of b c.args.self.now.sessions) < SUBSCRIPTION_LIMIT = omega (arith, c.if-at-ge-SUBSCRIPTION_LIMIT.false, c.count-at.ensures.count, ap length ss) in
    let p = err_from_is_err_and c.from_residual.result c.from_residual.ensures.1 in
    rw (p.1, p.2) (none, less)

pub returns-in_err-subscribe-clause-memory : goal.returns-in_err-subscribe-clause-memory
returns-in_err-subscribe-clause-memory c = λ rest h.
    let b = c.args.birth in
    let n = suc (length rest) in
    let v = c.self.inside.spots in
    let most = vec_capacity v - vec_len v in
    let rooms = c.self.inside.subscribers.room in
    let all = sym (ap (nat_le n) (room_within b most rooms)) ∙ ap (λ (x : _). nat_le n (room_of b x.room)) c.self.view_is ∙ h in
    let p = err_from_is_err_and c.from_residual-in_err-subscribe.result c.from_residual-in_err-subscribe.ensures.1 in
    rw (p.1, p.2) (c.in_err-subscribe.ensures.memory rest (room_there n (room_of b rooms) most all))

pub returns-in_err-subscribe-clause-room : goal.returns-in_err-subscribe-clause-room
returns-in_err-subscribe-clause-room c = λ rest h.
    let b = c.args.birth in
    let n = suc (length rest) in
    let v = c.self.inside.spots in
    let w = c.reserve.new.self in
    let most = vec_capacity v - vec_len v in
    let left = vec_capacity w - vec_len w in
    let rooms = c.self.inside.subscribers.room in
    let all = sym (ap (nat_le n) (room_within b most rooms)) ∙ ap (λ (x : _). nat_le n (room_of b x.room)) c.self.view_is ∙ h in
    let enough : length rest ≤ left = omega (arith, most_there n (room_of b rooms) most all, c.in_ok-reserve.ensures.len, c.in_ok-reserve.ensures.capacity) in
    ap (nat_le (length rest)) (room_within b left c.subscribe-2.new.self.room)
    ∙ both_rooms (length rest) (room_of b c.subscribe-2.new.self.room) left (c.subscribe-2.ensures.room rest (room_there n (room_of b rooms) most all)) enough

pub returns-clause-room : goal.returns-clause-room
returns-clause-room c = λ rest h.
    let b = c.args.birth in
    let n = suc (length rest) in
    let v = c.self.inside.spots in
    let w = c.insert.new.self in
    let most = vec_capacity v - vec_len v in
    let left = vec_capacity w - vec_len w in
    let rooms = c.self.inside.subscribers.room in
    let all = sym (ap (nat_le n) (room_within b most rooms)) ∙ ap (λ (x : _). nat_le n (room_of b x.room)) c.self.view_is ∙ h in
    let enough : length rest ≤ left = omega (arith, most_there n (room_of b rooms) most all, c.in_ok-reserve.ensures.len, c.in_ok-reserve.ensures.capacity, c.in_ok-insert.ensures.len, c.in_ok-insert.ensures.capacity) in
    ap (nat_le (length rest)) (room_within b left c.subscribe-2.new.self.room)
    ∙ both_rooms (length rest) (room_of b c.subscribe-2.new.self.room) left (c.subscribe-2.ensures.room rest (room_there n (room_of b rooms) most all)) enough

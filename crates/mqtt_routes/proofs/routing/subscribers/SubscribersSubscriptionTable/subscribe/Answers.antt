use Rattle.std.proofs.Common.{◌≡◌, ℕ, List, true, ◌∷◌, length, nat_eq, subst, sym, ◌∙◌, ap, refl, lit<, arith, IfErr, OnOk}
use Rattle.std.proofs.lemmas.Result.{err_from_is_err_and, on_ok_weaker, on_err_weaker}
use Rattle.indexmap.specs.IndexMap.{insert_entry, insert_index, move_index}
use Rattle.mqtt_routes.specs.routing.Subscriptions.{AreInOrder, Held, subscribers, rooms, room_of, spot_of, subs_of, with_subs, put, subscribed, takes_filter, RefusesPut}
use Rattle.std.specs.Prelude.{nat_le}
use Rattle.mqtt_routes.proofs.routing_lemmas.RoomLemmas.{room_of-found, room_of-none, room_of-set, some_room, room_left, no_room}
use Rattle.mqtt_routes.proofs.routing_lemmas.SpotLemmas.{order-with_subs, subs_of-found, subs_of-none, set_value-held, with_subs-found, with_subs-new, spot_of-most}
use Rattle.mqtt_routes.proofs.routing.subscribers.SubscribersSubscriptionTable.subscribe.Goals as goal

pub invariant_of-self : goal.invariant_of-self
invariant_of-self c =
    let b = c.args.birth in
    let es = c.self.inside.sessions.entries in
    let written = c.get_mut.follows.holds c.put.new.self in
    let is = ap subscribers written.0 ∙ with_subs-found b c.in-Some.subscriptions.now c.put.new.self es c.self.invariant c.in-Some.ensures.value in
    subst AreInOrder (sym is) (order-with_subs b c.put.new.self.subs (subscribers es) c.self.invariant)

pub returns-in-Some-clause-ok : goal.returns-in-Some-clause-ok
returns-in-Some-clause-ok c =
    let b = c.args.birth in
    let es = c.self.inside.sessions.entries in
    let old = c.in-Some.subscriptions.now in
    let written = c.get_mut.follows.holds c.put.new.self in
    let here = subs_of-found b old es c.self.invariant c.in-Some.ensures.value in
    on_ok_weaker c.put.result
    (λ made. ap subscribers written.0 ∙ with_subs-found b old c.put.new.self es c.self.invariant c.in-Some.ensures.value ∙ ap (λ s. with_subs b s (subscribers es)) (made ∙ ap (put c.args.subscription) (sym here)) ∙ ap (λ h. subscribed b c.args.subscription h.sessions) c.self.view_is)
    c.put.ensures.ok

pub returns-in-Some-clause-err : goal.returns-in-Some-clause-err
returns-in-Some-clause-err c =
    let b = c.args.birth in
    let es = c.self.inside.sessions.entries in
    let old = c.in-Some.subscriptions.now in
    on_err_weaker c.put.result
    (λ made. ap subscribers (c.get_mut.follows.holds c.put.new.self).0 ∙ set_value-held b old c.put.new.self es made c.in-Some.ensures.value ∙ ap (λ h. h.sessions) c.self.view_is)
    c.put.ensures.err

pub returns-in-Some-clause-refused : goal.returns-in-Some-clause-refused
returns-in-Some-clause-refused c =
    let b = c.args.birth in
    let here = subs_of-found b c.in-Some.subscriptions.now c.self.inside.sessions.entries c.self.invariant c.in-Some.ensures.value in
    subst (λ subs. IfErr c.put.result (RefusesPut c.args.subscription subs)) (sym here ∙ ap (λ h. subs_of b h.sessions) c.self.view_is) c.put.ensures.refused

pub returns-in_err-put-clause-refused : goal.returns-in_err-put-clause-refused
returns-in_err-put-clause-refused c =
    let b = c.args.birth in
    let none = ap (λ h. subs_of b h.sessions) (sym c.self.view_is) ∙ subs_of-none b c.self.inside.sessions.entries (sym c.in_default.ensures.value) in
    let p = err_from_is_err_and c.from_residual.result c.from_residual.ensures.1 in
    rw (p.1, p.2) (subst (λ subs. RefusesPut c.args.subscription subs c.in_err-put.field-0.0) (c.new-subscriptions.ensures ∙ sym none) c.in_err-put.ensures.refused)

pub shift_insert-requires-clause-in_bounds : goal.shift_insert-requires-clause-in_bounds
shift_insert-requires-clause-in_bounds c =
    let b = c.args.birth in
    let es = c.self.inside.sessions.entries in
    let spot = c.spot-i.ensures ∙ ap (λ (m : _). spot_of b (subscribers m.entries)) c.get_mut.follows.holds-at-none in
    rw c.get_mut.follows.holds-at-none (omega (arith, spot, spot_of-most b es))

pub returns-in_err-shift_insert-clause-refused : goal.returns-in_err-shift_insert-clause-refused
returns-in_err-shift_insert-clause-refused c =
    let b = c.args.birth in
    let none = ap (λ h. subs_of b h.sessions) (sym c.self.view_is) ∙ subs_of-none b c.self.inside.sessions.entries (sym c.in_default.ensures.value) in
    let p = err_from_is_err_and c.from_residual-in_err-shift_insert.result c.from_residual-in_err-shift_insert.ensures.1 in
    rw (p.1, p.2, none) (refl, lit< tt)

pub invariant_of-self-3 : goal.invariant_of-self-3
invariant_of-self-3 c =
    let b = c.args.birth in
    let es = c.self.inside.sessions.entries in
    let w = c.put-2.new.self in
    let i = c.spot-i.result in
    let spot = c.spot-i.ensures ∙ ap (λ (m : _). spot_of b (subscribers m.entries)) c.get_mut.follows.holds-at-none in
    let put_at = c.in_ok-shift_insert.ensures.entries ∙ ap (λ (m : _). move_index (insert_entry nat_eq m.entries b w) (insert_index nat_eq m b) i) c.get_mut.follows.holds-at-none in
    let is = ap subscribers put_at ∙ with_subs-new b w i es spot (sym c.in_default.ensures.value) in
    subst AreInOrder (sym is) (order-with_subs b w.subs (subscribers es) c.self.invariant)

pub returns-clause-ok : goal.returns-clause-ok
returns-clause-ok c =
    let b = c.args.birth in
    let es = c.self.inside.sessions.entries in
    let w = c.put-2.new.self in
    let i = c.spot-i.result in
    let spot = c.spot-i.ensures ∙ ap (λ (m : _). spot_of b (subscribers m.entries)) c.get_mut.follows.holds-at-none in
    let put_at = c.in_ok-shift_insert.ensures.entries ∙ ap (λ (m : _). move_index (insert_entry nat_eq m.entries b w) (insert_index nat_eq m b) i) c.get_mut.follows.holds-at-none in
    let none = subs_of-none b es (sym c.in_default.ensures.value) in
    ap subscribers put_at ∙ with_subs-new b w i es spot (sym c.in_default.ensures.value) ∙ ap (λ s. with_subs b s (subscribers es)) (c.in_ok-put.ensures.ok ∙ ap (put c.args.subscription) (c.new-subscriptions.ensures ∙ sym none)) ∙ ap (λ h. subscribed b c.args.subscription h.sessions) c.self.view_is

pub returns-in-Some-clause-only : goal.returns-in-Some-clause-only
returns-in-Some-clause-only c =
    let b = c.args.birth in
    let f = c.args.subscription.filter in
    let here = subs_of-found b c.in-Some.subscriptions.now c.self.inside.sessions.entries c.self.invariant c.in-Some.ensures.value in
    subst (λ subs. OnOk c.put.result (takes_filter f subs ≡ true)) (sym here ∙ ap (λ h. subs_of b h.sessions) c.self.view_is) c.put.ensures.only

pub returns-in-Some-clause-memory : goal.returns-in-Some-clause-memory
returns-in-Some-clause-memory c = λ rest h.
    let b = c.args.birth in
    let old = c.in-Some.subscriptions.now in
    let here = ap (λ (x : _). room_of b x.room) (sym c.self.view_is) ∙ room_of-found b old c.self.inside.sessions.entries c.in-Some.ensures.value in
    c.put.ensures.memory (some_room (length rest) old.room (ap (nat_le (length (c.args.subscription.filter ∷ rest))) (sym here) ∙ h))

pub returns-in-Some-clause-room : goal.returns-in-Some-clause-room
returns-in-Some-clause-room c = λ rest h.
    let b = c.args.birth in
    let es = c.self.inside.sessions.entries in
    let old = c.in-Some.subscriptions.now in
    let here = ap (λ (x : _). room_of b x.room) (sym c.self.view_is) ∙ room_of-found b old es c.in-Some.ensures.value in
    let written = c.get_mut.follows.holds c.put.new.self in
    ap (λ (xs : List (ℕ × Held)). nat_le (length rest) (room_of b (rooms xs))) written.0 ∙ ap (nat_le (length rest)) (room_of-set b old c.put.new.self es c.in-Some.ensures.value)
    ∙ room_left (length rest) old.room c.put.new.self.room c.put.ensures.room (ap (nat_le (length (c.args.subscription.filter ∷ rest))) (sym here) ∙ h)

pub returns-in_err-put-clause-memory : goal.returns-in_err-put-clause-memory
returns-in_err-put-clause-memory c = λ rest h.
    let none = ap (λ (x : _). room_of c.args.birth x.room) (sym c.self.view_is) ∙ room_of-none c.args.birth c.self.inside.sessions.entries (sym c.in_default.ensures.value) in
    absurd (no_room (length rest) (room_of c.args.birth c.args.self.now.room) none h)

pub returns-in_err-put-clause-room : goal.returns-in_err-put-clause-room
returns-in_err-put-clause-room c = λ rest h.
    let none = ap (λ (x : _). room_of c.args.birth x.room) (sym c.self.view_is) ∙ room_of-none c.args.birth c.self.inside.sessions.entries (sym c.in_default.ensures.value) in
    absurd (no_room (length rest) (room_of c.args.birth c.args.self.now.room) none h)

pub returns-in_err-shift_insert-clause-memory : goal.returns-in_err-shift_insert-clause-memory
returns-in_err-shift_insert-clause-memory c = λ rest h.
    let none = ap (λ (x : _). room_of c.args.birth x.room) (sym c.self.view_is) ∙ room_of-none c.args.birth c.self.inside.sessions.entries (sym c.in_default.ensures.value) in
    absurd (no_room (length rest) (room_of c.args.birth c.args.self.now.room) none h)

pub returns-in_err-shift_insert-clause-room : goal.returns-in_err-shift_insert-clause-room
returns-in_err-shift_insert-clause-room c = λ rest h.
    let none = ap (λ (x : _). room_of c.args.birth x.room) (sym c.self.view_is) ∙ room_of-none c.args.birth c.self.inside.sessions.entries (sym c.in_default.ensures.value) in
    absurd (no_room (length rest) (room_of c.args.birth c.args.self.now.room) none h)

pub returns-clause-room : goal.returns-clause-room
returns-clause-room c = λ rest h.
    let none = ap (λ (x : _). room_of c.args.birth x.room) (sym c.self.view_is) ∙ room_of-none c.args.birth c.self.inside.sessions.entries (sym c.in_default.ensures.value) in
    absurd (no_room (length rest) (room_of c.args.birth c.args.self.now.room) none h)

pub returns-clause-only : goal.returns-clause-only
returns-clause-only c =
    let b = c.args.birth in
    let none = ap (λ h. subs_of b h.sessions) (sym c.self.view_is) ∙ subs_of-none b c.self.inside.sessions.entries (sym c.in_default.ensures.value) in
    ap (takes_filter c.args.subscription.filter) (none ∙ sym c.new-subscriptions.ensures) ∙ c.in_ok-put.ensures.only

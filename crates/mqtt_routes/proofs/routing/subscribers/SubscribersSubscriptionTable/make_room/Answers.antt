use Rattle.std.proofs.Common.{◌≡◌, ◌<◌, ◌≤◌, ℕ, List, length, nat_eq, subst, sym, ◌∙◌, ap, arith, false, eqb}
use Rattle.std.proofs.lemmas.Result.{err_from_is_err_and, on_ok_weaker, on_err_weaker}
use Rattle.std.specs.Prelude.{nat_le}
use Rattle.indexmap.specs.IndexMap.{insert_entry, insert_index, move_index}
use Rattle.mqtt_routes.specs.routing.Subscriptions.{AreInOrder, Held, subscribers, rooms, room_of, spot_of, subs_of, with_subs, filters_of}
use Rattle.mqtt_routes.proofs.routing_lemmas.SpotLemmas.{order-with_subs, subs_of-found, subs_of-none, set_value-held, with_subs-found, with_subs-new, spot_of-most}
use Rattle.mqtt_routes.proofs.routing_lemmas.RoomLemmas.{room_of-found, room_of-none, room_of-set, room_made, room_lacks, length-filters_of, standing-none, standing-some, room_for_none, some_length}
use Rattle.mqtt_routes.proofs.routing.subscribers.SubscribersSubscriptionTable.make_room.Goals as goal

-- ---- room for nothing

pub returns-then-is_empty-clause-ok : goal.returns-then-is_empty-clause-ok
returns-then-is_empty-clause-ok c = sym (standing-none c.args.birth c.args.new.now c.args.self.now.sessions (sym c.is_empty.ensures ∙ c.if-is_empty.true))

pub returns-then-is_empty-clause-room : goal.returns-then-is_empty-clause-room
returns-then-is_empty-clause-room c = room_for_none c.args.new.now (room_of c.args.birth c.args.self.now.room) (sym c.is_empty.ensures ∙ c.if-is_empty.true)

-- ---- a session that stands

pub invariant_of-self : goal.invariant_of-self
invariant_of-self c =
    let b = c.args.birth in
    let es = c.self.inside.sessions.entries in
    let written = c.get_mut.follows.holds c.make_room.new.self in
    let is = ap subscribers written.0 ∙ set_value-held b c.in-Some.subscriptions.now c.make_room.new.self es c.make_room.ensures.same c.in-Some.ensures.value in
    subst AreInOrder (sym is) c.self.invariant

pub returns-in-Some-clause-ok : goal.returns-in-Some-clause-ok
returns-in-Some-clause-ok c =
    let b = c.args.birth in
    let es = c.self.inside.sessions.entries in
    let old = c.in-Some.subscriptions.now in
    let w = c.make_room.new.self in
    let written = c.get_mut.follows.holds w in
    let here = subs_of-found b old es c.self.invariant c.in-Some.ensures.value in
    let some : eqb (length c.args.new.now) 0 ≡ false = sym c.is_empty.ensures ∙ c.if-is_empty.false in
    on_ok_weaker c.make_room.result
    (λ made. ap subscribers written.0 ∙ with_subs-found b old w es c.self.invariant c.in-Some.ensures.value ∙ ap (λ s. with_subs b s (subscribers es)) (c.make_room.ensures.same ∙ sym here)
    ∙ ap (λ (h : _). with_subs b (subs_of b h.sessions) h.sessions) c.self.view_is ∙ sym (standing-some b c.args.new.now c.args.self.now.sessions some))
    c.make_room.ensures.ok

pub returns-in-Some-clause-err : goal.returns-in-Some-clause-err
returns-in-Some-clause-err c =
    let es = c.self.inside.sessions.entries in
    let w = c.make_room.new.self in
    on_err_weaker c.make_room.result
    (λ lacks. ap subscribers (c.get_mut.follows.holds w).0 ∙ set_value-held c.args.birth c.in-Some.subscriptions.now w es c.make_room.ensures.same c.in-Some.ensures.value ∙ ap (λ (h : _). h.sessions) c.self.view_is)
    c.make_room.ensures.memory

pub returns-in-Some-clause-room : goal.returns-in-Some-clause-room
returns-in-Some-clause-room c =
    let b = c.args.birth in
    let es = c.self.inside.sessions.entries in
    let new = c.args.new.now in
    let w = c.make_room.new.self in
    on_ok_weaker c.make_room.result
    (λ made. let enough : length new ≤ w.room = omega (arith, made) in
    ap (λ (xs : List (ℕ × Held)). nat_le (length (filters_of new)) (room_of b (rooms xs))) (c.get_mut.follows.holds w).0 ∙ ap (nat_le (length (filters_of new))) (room_of-set b c.in-Some.subscriptions.now w es c.in-Some.ensures.value)
    ∙ ap (λ n. nat_le n w.room) (length-filters_of new) ∙ room_made (length new) w.room enough)
    c.make_room.ensures.ok

pub returns-in-Some-clause-memory : goal.returns-in-Some-clause-memory
returns-in-Some-clause-memory c =
    let b = c.args.birth in
    let new = c.args.new.now in
    let old = c.in-Some.subscriptions.now in
    on_err_weaker c.make_room.result
    (λ lacks. let less : old.room < length new = omega (arith, lacks) in
    ap (λ (h : _). nat_le (length (filters_of new)) (room_of b h.room)) (sym c.self.view_is) ∙ ap (nat_le (length (filters_of new))) (room_of-found b old c.self.inside.sessions.entries c.in-Some.ensures.value)
    ∙ ap (λ n. nat_le n old.room) (length-filters_of new) ∙ room_lacks (length new) old.room less)
    c.make_room.ensures.memory

-- ---- a session that doesn't

pub returns-in_err-make_room-clause-memory : goal.returns-in_err-make_room-clause-memory
returns-in_err-make_room-clause-memory c =
    let b = c.args.birth in
    let new = c.args.new.now in
    let none = ap (λ (h : _). room_of b h.room) (sym c.self.view_is) ∙ room_of-none b c.self.inside.sessions.entries (sym c.in_default.ensures.value) in
    let some = some_length new (sym c.is_empty.ensures ∙ c.if-is_empty.false) in
    let p = err_from_is_err_and c.from_residual.result c.from_residual.ensures.1 in
    rw p.1 (ap (nat_le (length (filters_of new))) none ∙ ap (λ n. nat_le n 0) (length-filters_of new) ∙ room_lacks (length new) 0 some)

pub returns-in_err-shift_insert-clause-memory : goal.returns-in_err-shift_insert-clause-memory
returns-in_err-shift_insert-clause-memory c =
    let b = c.args.birth in
    let new = c.args.new.now in
    let none = ap (λ (h : _). room_of b h.room) (sym c.self.view_is) ∙ room_of-none b c.self.inside.sessions.entries (sym c.in_default.ensures.value) in
    let some = some_length new (sym c.is_empty.ensures ∙ c.if-is_empty.false) in
    let p = err_from_is_err_and c.from_residual-in_err-shift_insert.result c.from_residual-in_err-shift_insert.ensures.1 in
    rw p.1 (ap (nat_le (length (filters_of new))) none ∙ ap (λ n. nat_le n 0) (length-filters_of new) ∙ room_lacks (length new) 0 some)

pub shift_insert-requires-clause-in_bounds : goal.shift_insert-requires-clause-in_bounds
shift_insert-requires-clause-in_bounds c =
    let b = c.args.birth in
    let es = c.self.inside.sessions.entries in
    let spot = c.spot-i.ensures ∙ ap (λ (m : _). spot_of b (subscribers m.entries)) c.get_mut.follows.holds-at-none in
    rw c.get_mut.follows.holds-at-none (omega (arith, spot, spot_of-most b es))

pub invariant_of-self-3 : goal.invariant_of-self-3
invariant_of-self-3 c =
    let b = c.args.birth in
    let es = c.self.inside.sessions.entries in
    let w = c.make_room-2.new.self in
    let i = c.spot-i.result in
    let spot = c.spot-i.ensures ∙ ap (λ (m : _). spot_of b (subscribers m.entries)) c.get_mut.follows.holds-at-none in
    let put_at = c.in_ok-shift_insert.ensures.entries ∙ ap (λ (m : _). move_index (insert_entry nat_eq m.entries b w) (insert_index nat_eq m b) i) c.get_mut.follows.holds-at-none in
    let is = ap subscribers put_at ∙ with_subs-new b w i es spot (sym c.in_default.ensures.value) in
    subst AreInOrder (sym is) (order-with_subs b w.subs (subscribers es) c.self.invariant)

pub returns-clause-ok : goal.returns-clause-ok
returns-clause-ok c =
    let b = c.args.birth in
    let es = c.self.inside.sessions.entries in
    let w = c.make_room-2.new.self in
    let i = c.spot-i.result in
    let spot = c.spot-i.ensures ∙ ap (λ (m : _). spot_of b (subscribers m.entries)) c.get_mut.follows.holds-at-none in
    let put_at = c.in_ok-shift_insert.ensures.entries ∙ ap (λ (m : _). move_index (insert_entry nat_eq m.entries b w) (insert_index nat_eq m b) i) c.get_mut.follows.holds-at-none in
    let none = subs_of-none b es (sym c.in_default.ensures.value) in
    let some : eqb (length c.args.new.now) 0 ≡ false = sym c.is_empty.ensures ∙ c.if-is_empty.false in
    ap subscribers put_at ∙ with_subs-new b w i es spot (sym c.in_default.ensures.value) ∙ ap (λ s. with_subs b s (subscribers es)) (c.make_room-2.ensures.same ∙ c.new-subscriptions.ensures ∙ sym none)
    ∙ ap (λ (h : _). with_subs b (subs_of b h.sessions) h.sessions) c.self.view_is ∙ sym (standing-some b c.args.new.now c.args.self.now.sessions some)

pub returns-clause-room : goal.returns-clause-room
returns-clause-room c =
    let b = c.args.birth in
    let new = c.args.new.now in
    let w = c.make_room-2.new.self in
    let enough : length new ≤ w.room = omega (arith, c.in_ok-make_room.ensures.ok) in
    ap (nat_le (length (filters_of new))) (room_of-found b w c.shift_insert.new.self.entries (sym c.in_ok-shift_insert.ensures.updates.1))
    ∙ ap (λ n. nat_le n w.room) (length-filters_of new) ∙ room_made (length new) w.room enough

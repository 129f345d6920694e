-- Lemmas on the room of sessions for further subscriptions (MQTT 5.0, 3.8).
use Rattle.std.proofs.Common.{◌≡◌, ℕ, suc, ◌+◌, ◌<◌, ◌≤◌, Bool, true, false, cond, List, [], ◌∷◌, length, eqb, refl, sym, ap, nat_eq, Some, None, arith}
use Rattle.std.specs.Prelude.{nat_le}
use Rattle.std.proofs.lemmas.Bool.Decides.{nat_tests}
use Rattle.std.specs.Map.{lookup, set_value}
use Rattle.mqtt_routes.specs.declared.routing.subscription.Subscription.{Subscription}
use Rattle.mqtt_routes.specs.routing.Subscriptions.{Subscriber, Held, rooms, room_of, filters_of, subs_of, with_subs, standing}

module _ (b : ℕ) where
  found_by : (t : Bool) (old : Held) (e : ℕ × Held) (es : List (ℕ × Held)) → Some old ≡ cond t (Some e.1) (lookup (nat_eq b) es) → (Some old ≡ lookup (nat_eq b) es → room_of b (rooms es) ≡ old.room)
      → cond t e.1.room (room_of b (rooms es)) ≡ old.room
  found_by true old e es h more = let is : old ≡ e.1 = cc in ap (λ (x : Held). x.room) (sym is)
  found_by false old e es h more = more h

  -- the room of a session that stands
  pub room_of-found : (old : Held) (es : List (ℕ × Held)) → Some old ≡ lookup (nat_eq b) es → room_of b (rooms es) ≡ old.room
  room_of-found old [] h = cc
  room_of-found old (e ∷ es) h = found_by (nat_eq b e.0) old e es h (room_of-found old es)

  none_by : (t : Bool) (e : ℕ × Held) (es : List (ℕ × Held)) → cond t (Some e.1) (lookup (nat_eq b) es) ≡ None → (lookup (nat_eq b) es ≡ None → room_of b (rooms es) ≡ 0) → cond t e.1.room (room_of b (rooms es)) ≡ 0
  none_by true e es h more = cc
  none_by false e es h more = more h

  -- and of one that doesn't
  pub room_of-none : (es : List (ℕ × Held)) → lookup (nat_eq b) es ≡ None → room_of b (rooms es) ≡ 0
  room_of-none [] h = refl
  room_of-none (e ∷ es) h = none_by (nat_eq b e.0) e es h (room_of-none es)

  set_by : (t : Bool) (old w : Held) (e : ℕ × Held) (es : List (ℕ × Held)) → nat_eq b e.0 ≡ t → Some old ≡ cond t (Some e.1) (lookup (nat_eq b) es) → (Some old ≡ lookup (nat_eq b) es → room_of b (rooms (set_value (nat_eq b) es w)) ≡ w.room)
      → room_of b (rooms (cond t ((e.0, w) ∷ es) (e ∷ set_value (nat_eq b) es w))) ≡ w.room
  set_by true old w e es at h more = rw at refl
  set_by false old w e es at h more = rw at (more h)

  -- and of one whose subscriptions change
  pub room_of-set : (old w : Held) (es : List (ℕ × Held)) → Some old ≡ lookup (nat_eq b) es → room_of b (rooms (set_value (nat_eq b) es w)) ≡ w.room
  room_of-set old w [] h = cc
  room_of-set old w (e ∷ es) h = set_by (nat_eq b e.0) old w e es refl h (room_of-set old w es)

-- room for one is room
pub some_room : (n room : ℕ) → nat_le (suc n) room ≡ true → 0 < room
some_room n room h = grind (arith, nat_tests)

-- what is left once one is put
pub room_left : (n before after : ℕ) → before ≤ after + 1 → nat_le (suc n) before ≡ true → nat_le n after ≡ true
room_left n before after l h = grind (arith, nat_tests)

-- no more than the room has room
pub room_made : (n room : ℕ) → n ≤ room → nat_le n room ≡ true
room_made n room l = grind (arith, nat_tests)

-- more than the room has none
pub room_lacks : (n room : ℕ) → room < n → nat_le n room ≡ false
room_lacks n room l = grind (arith, nat_tests)

-- without room not one more has room
pub no_room : (n room : ℕ) → room ≡ 0 → nat_le (suc n) room ≡ true → ⊥
no_room n room none h = let some = some_room n room h in omega (arith, some, none)

-- subscriptions have as many filters as they are
pub length-filters_of : (new : List Subscription) → length (filters_of new) ≡ length new
length-filters_of [] = refl
length-filters_of (s ∷ ss) = ap suc (length-filters_of ss)

-- no room is made for nothing
pub standing-none : (b : ℕ) (new : List Subscription) (xs : List Subscriber) → eqb (length new) 0 ≡ true → standing b (filters_of new) xs ≡ xs
standing-none b [] xs e = refl
standing-none b (s ∷ ss) xs e = absurd (grind (arith, nat_tests))

-- if there is something to subscribe to, the session stands in the list with what it has
pub standing-some : (b : ℕ) (new : List Subscription) (xs : List Subscriber) → eqb (length new) 0 ≡ false → standing b (filters_of new) xs ≡ with_subs b (subs_of b xs) xs
standing-some b [] xs e = absurd (grind (arith, nat_tests))
standing-some b (s ∷ ss) xs e = refl

-- nothing to subscribe to has room always
pub room_for_none : (new : List Subscription) (room : ℕ) → eqb (length new) 0 ≡ true → nat_le (length (filters_of new)) room ≡ true
room_for_none [] room e = room_made 0 room (omega arith)
room_for_none (s ∷ ss) room e = absurd (grind (arith, nat_tests))

-- what is not nothing is at least one
pub some_length : (new : List Subscription) → eqb (length new) 0 ≡ false → 0 < length new
some_length [] e = absurd (grind (arith, nat_tests))
some_length (s ∷ ss) e = omega arith

-- Somebody's queue is pressing where anybody is held, and what is seen while no PUBLISH comes leaves the moment of the last.
use Rattle.std.proofs.Common.{◌≡◌, ℕ, suc, ◌+◌, ◌<◌, Bool, true, false, not, ◌&&◌, List, [], ◌∷◌, Option, Some, None, nat_lt, slice_get, refl, ◌∙◌, inl, inr}
use Rattle.std.specs.Prelude.{is_some}
use Rattle.std.proofs.lemmas.Bool.{cases_Bool, ltb-true}
use Rattle.mqtt_holding.specs.Holding.{BringsNothing, Event, Seen, looks, brings, acknowledges, after, is_held, is_late, is_pressed, is_pressing, run}
use Rattle.mqtt_holding.specs.declared.seen.TheConstants.{HOLD_TIME, STALL_TIME}

-- the queue at a place is pressing
abbrev pub IsPressedAt : ℕ → List Seen → Type 0
IsPressedAt now all = (place : ℕ) × ((reader : Seen) × ((slice_get all place ≡ Some reader) × (is_pressing now reader ≡ true)))

pressed_found : (now : ℕ) (all : List Seen) → is_pressed now all ≡ true → IsPressedAt now all
pressed_found now [] e = absurd cc
pressed_found now (s ∷ all) e = elim (cases_Bool (is_pressing now s)) [
  | inl here ↦ (0, (s, (refl, here)))
  | inr other ↦ let it = pressed_found now all (rw other at e) in (suc it.0, (it.1.0, (it.1.1.0, it.1.1.1)))
]

both : (x y : Bool) → (x && y) ≡ true → (x ≡ true) × (y ≡ true)
both true y e = (refl, e)
both false y e = absurd cc

pressing : (now : ℕ) (s : Seen) → is_pressing now s ≡ true → (s.is_over ≡ true) × (now < s.moved + STALL_TIME)
pressing now s e = let it = both s.is_over (nat_lt now (s.moved + STALL_TIME)) e in (it.0, ltb-true _ _ it.1)

-- whoever is held is held for the queue of some connection that is over the mark and made progress lately
pub held_needed : (all : List Seen) (s : Seen) (now : ℕ) → is_held (is_pressed now all) now s ≡ true
    → (place : ℕ) × ((reader : Seen) × ((slice_get all place ≡ Some reader) × ((reader.is_over ≡ true) × (now < reader.moved + STALL_TIME))))
held_needed all s now e =
    let it = pressed_found now all (both (is_pressed now all) _ e).0 in
    (it.0, (it.1.0, (it.1.1.0, pressing now it.1.0 it.1.1.1)))

brought_stays : (events : List Event) (s : Seen) → BringsNothing events → (run events s).brought ≡ s.brought
brought_stays [] s none = refl
brought_stays (looks mark None now ∷ events) s none = brought_stays events (after (looks mark None now) s) none
brought_stays (looks mark (Some waits) now ∷ events) s none = brought_stays events (after (looks mark (Some waits) now) s) none
brought_stays (brings now ∷ events) s none = absurd none
brought_stays (acknowledges now ∷ events) s none = brought_stays events (after (acknowledges now) s) none

not_not : (b : Bool) → not (not b) ≡ true → b ≡ true
not_not true e = refl
not_not false e = absurd cc

soon : (now at : ℕ) (o : Option ℕ) → o ≡ Some at → not (is_late now o) ≡ true → now < at + HOLD_TIME
soon now at o is e = ltb-true _ _ (not_not (nat_lt now (at + HOLD_TIME)) (rw is at e))

held_soon : (s : Seen) (at now : ℕ) (pressed : Bool) → s.brought ≡ Some at → is_held pressed now s ≡ true → now < at + HOLD_TIME
held_soon s at now pressed is e =
    let late = not (is_late now s.brought) in
    let under = not s.is_over in
    soon now at s.brought is (both under late (both (is_some s.waits) (under && late) (both pressed (is_some s.waits && (under && late)) e).1).1).1

-- whoever brought no PUBLISH since is held for HOLD_TIME at most
pub held_for_a_while : (events : List Event) (s : Seen) (at now : ℕ) (pressed : Bool) → s.brought ≡ Some at → BringsNothing events
    → is_held pressed now (run events s) ≡ true → now < at + HOLD_TIME
held_for_a_while events s at now pressed is none e = held_soon (run events s) at now pressed (brought_stays events s none ∙ is) e

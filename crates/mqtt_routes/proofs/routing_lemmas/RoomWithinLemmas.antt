-- Lemmas on room that is at most so much (MQTT 5.0, 3.8).
use Rattle.std.proofs.Common.{◌≡◌, ℕ, ◌<◌, ◌≤◌, Bool, true, false, cond, List, [], ◌∷◌, min, refl, nat_eq, arith, Result, Ok, Err, OnOk, OnErr}
use Rattle.std.specs.Prelude.{nat_le}
use Rattle.std.proofs.lemmas.Bool.Decides.{nat_tests}
use Rattle.mqtt_routes.specs.routing.Subscriptions.{room_of}
use Rattle.mqtt_routes.specs.routing.Spots.{rooms_within}

-- what a call leaves, whatever it answers
pub by_result : {A E P : Type 0} (r : Result A E) → OnOk r P → OnErr r P → P
by_result (Ok x) h k = h
by_result (Err e) h k = k

within_by : (t : Bool) (e most rest less : ℕ) → less ≡ min rest most → cond t (min e most) less ≡ min (cond t e rest) most
within_by true e most rest less h = refl
within_by false e most rest less h = h

-- the room of a session when each has at most so much is the lesser of the two
pub room_within : (b most : ℕ) (rooms : List (ℕ × ℕ)) → room_of b (rooms_within most rooms) ≡ min (room_of b rooms) most
room_within b most [] = omega arith
room_within b most (e ∷ es) = within_by (nat_eq b e.0) e.1 most (room_of b es) (room_of b (rooms_within most es)) (room_within b most es)

le_yes : (n m : ℕ) → nat_le n m ≡ true → n ≤ m
le_yes n m h = grind (arith, nat_tests)

le_is : (n m : ℕ) → n ≤ m → nat_le n m ≡ true
le_is n m h = grind (arith, nat_tests)

le_no : (n m : ℕ) → nat_le n m ≡ false → m < n
le_no n m h = grind (arith, nat_tests)

le_isnt : (n m : ℕ) → m < n → nat_le n m ≡ false
le_isnt n m h = grind (arith, nat_tests)

-- what has room, and is no more than the most, has room within the most
pub both_rooms : (n room most : ℕ) → nat_le n room ≡ true → n ≤ most → nat_le n (min room most) ≡ true
both_rooms n room most h l = let a = le_yes n room h in le_is n (min room most) (omega (arith, a, l))

-- what has room within the most has room
pub room_there : (n room most : ℕ) → nat_le n (min room most) ≡ true → nat_le n room ≡ true
room_there n room most h = let a = le_yes n (min room most) h in le_is n room (omega (arith, a))

-- what has room within the most is no more than it
pub most_there : (n room most : ℕ) → nat_le n (min room most) ≡ true → n ≤ most
most_there n room most h = let a = le_yes n (min room most) h in omega (arith, a)

-- what has no room has none within the most
pub less_room : (n room most : ℕ) → nat_le n room ≡ false → nat_le n (min room most) ≡ false
less_room n room most h = let a = le_no n room h in le_isnt n (min room most) (omega (arith, a))

-- what is more than the most has no room within it
pub less_most : (n room most : ℕ) → most < n → nat_le n (min room most) ≡ false
less_most n room most l = le_isnt n (min room most) (omega (arith, l))

-- Lemmas on members of groups (MQTT 5.0, 4.8.2).
use Rattle.std.proofs.Common.{◌≡◌, ℕ, suc, ◌≤◌, Bool, true, false, cond, List, [], ◌∷◌, length, insert, refl, ap, nat_lt, arith}
use Rattle.mqtt_routes.specs.routing.Intended.{Member, insert_member, insertion_spot}

insert_by : (lt : Bool) (m x : Member) (xs : List Member) (p : ℕ) → insert xs p m ≡ insert_member m xs → insert (x ∷ xs) (cond lt 0 (suc p)) m ≡ cond lt (m ∷ x ∷ xs) (x ∷ insert_member m xs)
insert_by true m x xs p e = refl
insert_by false m x xs p e = ap (λ (ys : List Member). x ∷ ys) e

-- a member stands at its spot
pub insert-member : (m : Member) (xs : List Member) → insert xs (insertion_spot m.sub.place xs) m ≡ insert_member m xs
insert-member m [] = refl
insert-member m (x ∷ xs) = insert_by (nat_lt m.sub.place x.sub.place) m x xs (insertion_spot m.sub.place xs) (insert-member m xs)

most_by : (lt : Bool) (p n : ℕ) → p ≤ n → cond lt 0 (suc p) ≤ suc n
most_by true p n l = omega arith
most_by false p n l = omega arith

-- a member's place is one of the group, or the one behind all
pub insertion_spot-most : (place : ℕ) (xs : List Member) → insertion_spot place xs ≤ length xs
insertion_spot-most place [] = omega arith
insertion_spot-most place (x ∷ xs) = most_by (nat_lt place x.sub.place) (insertion_spot place xs) (length xs) (insertion_spot-most place xs)

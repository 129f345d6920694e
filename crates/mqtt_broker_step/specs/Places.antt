-- The places of the copies whose PUBLISH went out on a line, and how a list of them changes (MQTT 5.0, 4.3, 4.6).
use Rattle.std.specs.Prelude.{◌≡◌, ℕ, zero, ◌-◌, ◌≤◌, Bool, true, cond, ◌&&◌, List, [], ◌∷◌, ◌++◌, length, take, get_or, nat_eq, nat_le, nat_lt}
use Rattle.std.specs.List.{insert}
use Rattle.mqtt_base.specs.declared.limits.TheConstants.{QUEUE_LIMIT}
use Rattle.mqtt_records.specs.lists.Order.{IsAscending}
use Rattle.mqtt_flow.specs.inbound.Inflow.{StandsAt}
use Rattle.mqtt_broker_step.specs.declared.places.TheConstants.{FEW}

-- each place is above those before it
abbrev pub AreAscending : List ℕ → Type 0
AreAscending places = IsAscending (λ place. place) places

-- how many places a list of so many has room for, at least
abbrev pub room_for : ℕ → ℕ
room_for count = cond (nat_eq count zero) zero (cond (nat_le count FEW) FEW QUEUE_LIMIT)

-- what is remembered of a list of places: if it is told to ascend it does, and it has its room
pub record IsKept (ascends : Bool) (places : List ℕ) (room : ℕ) : Type 0 where
  pub ascending : ascends ≡ true → AreAscending places
  pub roomy : room_for (length places) ≤ room

-- one more than so many places needs no memory
abbrev pub has_room_behind : ℕ → Bool
has_room_behind count = nat_lt count (room_for count)

abbrev pub has_room : List ℕ → Bool
has_room places = has_room_behind (length places)

-- one more at the end, if there is room
abbrev pub with_pushed : ℕ → List ℕ → List ℕ
with_pushed place places = cond (has_room places) (places ++ place ∷ []) places

-- one more in its place, if there is room
abbrev pub with_inserted : ℕ → ℕ → List ℕ → List ℕ
with_inserted index place places = cond (nat_le index (length places) && has_room places) (insert places index place) places

-- those before the last
abbrev pub without_last : List ℕ → List ℕ
without_last places = take (length places - 1) places

-- the place stands at this index, and nowhere else
pub record IsIndexOf (place : ℕ) (places : List ℕ) (index : ℕ) : Type 0 where
  pub stands : StandsAt place places index
  pub here : get_or places index 0 ≡ place

-- Strangers of a world by themselves, and the worlds in which they stand (MQTT 5.0, 2.1).
use Rattle.std.specs.Prelude.{◌≡◌, ◌<◌, ◌≤◌, ℕ, ⊤, List, [], ◌∷◌, ◌++◌, length, take, drop, get_or, find, bytes_eq, cond, false, is_some, true, Option, None, Some, Ok}
use Rattle.std.specs.List.{AllByRecursion}
use Rattle.mqtt_packet.specs.stream.Front.{first_of}
use Rattle.mqtt_rules.specs.step.Step.{Call, NewLine}
use Rattle.mqtt_world_model.specs.model.World.{Setting, Stranger, World, ask, bytes_held, call_on, calls, held_after, is_bad, next_held, next_line, stranger}
use Rattle.mqtt_world_model.specs.model.World.{stranger_named, with_stranger}
use Rattle.mqtt_world_model.specs.single_steps.Unrolled.{AreAlike, bytes_come}
use Rattle.mqtt_world_ends.specs.strangers.Fronts.{IsGiven, IsNextPiece}

-- a world in which these strangers stand, and no others
abbrev pub in_world : List Stranger → World → World
in_world ss w = record w { strangers = ss }

-- in any world, what stands there afterwards is what f makes of what stood there
abbrev pub Become : (World → World) → List Stranger → List Stranger → Type 0
Become f old new = (w : World) → in_world new w ≡ f (in_world old w)

abbrev pub named : List ℕ → List Stranger → Option Stranger
named name ss = find (λ s. bytes_eq s.name name) ss

-- what is held of the bytes of the one of this name
abbrev pub held_of : List ℕ → List Stranger → List ℕ
held_of name ss = bytes_held (named name ss)

abbrev pub line_of : Option Stranger → Option ℕ
line_of None = None
line_of (Some s) = s.number

-- ---- what always holds of them

-- no two have one name
abbrev pub AreDistinct : List Stranger → Type 0
AreDistinct [] = ⊤
AreDistinct (s ∷ ss) = (named s.name ss ≡ None) × AreDistinct ss

-- nothing whole is held of the bytes of each
abbrev pub AreWaiting : List Stranger → Type 0
AreWaiting ss = AllByRecursion (λ (s : Stranger). first_of s.held ≡ Ok None) ss

pub record AreKept (ss : List Stranger) : Type 0 where
  pub distinct : AreDistinct ss
  pub waiting : AreWaiting ss

-- the first of this name is at this place
pub record IsPlace (name : List ℕ) (ss : List Stranger) (place : ℕ) : Type 0 where
  pub within : place < length ss
  pub before : named name (take place ss) ≡ None
  pub here : (other : Stranger) → bytes_eq (get_or ss place other).name name ≡ true

-- ---- what comes

-- the one of this name holds what f makes of what it held
abbrev pub if_named : List ℕ → (List ℕ → List ℕ) → Stranger → Stranger
if_named name f s = cond (bytes_eq s.name name) (record s { held = f s.held }) s

-- one that has sent nothing, on its line, if there is one
abbrev pub newcomer : List ℕ → Option ℕ → Stranger
newcomer name line = record { name = name; number = line; held = [] }

-- its line is linked, if there is one for it
abbrev pub welcomes : Setting → List ℕ → World → World
welcomes set name w = record (calls set NewLine w) { strangers = w.strangers ++ newcomer name (next_line set.limits w.broker) ∷ [] }

-- a piece of its bytes comes, and what is whole of them is held no longer
abbrev pub takes_piece : List ℕ → List ℕ → World → World
takes_piece name piece w = next_held name (with_stranger name (λ s. record s { held = s.held ++ piece }) w)

-- what it asks of the broker then
abbrev pub asks_piece : List ℕ → List ℕ → World → Option Call
asks_piece name piece w = call_on (line_of (stranger_named name w)) (bytes_come name piece w)

-- A piece comes to a stranger who is there, and is one step: nothing whole is behind the first packet, and no end is named.
pub record IsStep (name piece : List ℕ) (w : World) : Type 0 where
  pub alike : AreAlike name w
  pub there : is_some (stranger_named name w) ≡ true
  pub one : first_of (held_after (bytes_come name piece w)) ≡ Ok None
  pub good : is_bad (ask (stranger name piece)) w ≡ false

-- Bytes come to the one of this name: so many of them are the next piece, and this is given to the broker of what is held
-- with it.
pub record Comes (name bytes : List ℕ) (old new : List Stranger) (taken : ℕ) (given : Option (List ℕ)) : Type 0 where
  pub within : taken ≤ length bytes
  pub next : IsNextPiece (held_of name old) (take taken bytes) (drop taken bytes)
  pub asks : IsGiven (held_of name old ++ take taken bytes) given
  pub becomes : Become (takes_piece name (take taken bytes)) old new

-- Events of one step of the broker each, to which an event comes (MQTT 5.0, 2.1, 4.1).
use Rattle.std.specs.Prelude.{◌≡◌, ◌⊎◌, ℕ, true, List, [], ◌∷◌, ◌++◌, length, map, Some, None, Ok, Err, bytes_eq, ⊤}
use Rattle.std.specs.List.{AllByRecursion, concat}
use Rattle.mqtt_packet.specs.declared.codec.packet.Packet.{Packet}
use Rattle.mqtt_packet.specs.stream.Front.{first_of}
use Rattle.mqtt_rules.specs.step.State.{MemberChoice}
use Rattle.mqtt_rules.specs.step.Piece.{Front}
use Rattle.mqtt_world_model.specs.model.Run.{Turn}
use Rattle.mqtt_world_model.specs.model.World.{Asking, Event, Stranger, World, ask, break, bytes_held, clock, connect_end, give_up}
use Rattle.mqtt_world_model.specs.model.World.{held_after, old_to_broker, publish, publisher, pump, receiver, restart, stop_after}
use Rattle.mqtt_world_model.specs.model.World.{stop_before, stranger, stranger_named, subscribe, tick, to_broker, to_end}

-- ---- the bytes of a stranger

-- what is held of a stranger's bytes when these have come
abbrev pub bytes_come : List ℕ → List ℕ → World → List ℕ
bytes_come name bytes w = bytes_held (stranger_named name w) ++ bytes

-- strangers of this name, of which a run makes one at most, hold the same
abbrev pub HoldsThese : List ℕ → List ℕ → Stranger → Type 0
HoldsThese name held s = bytes_eq s.name name ≡ true → s.held ≡ held

abbrev pub AreAlike : List ℕ → World → Type 0
AreAlike name w = AllByRecursion (HoldsThese name (bytes_held (stranger_named name w))) w.strangers

-- one whole packet, and nothing behind it
abbrev pub IsWhole : List ℕ → Type 0
IsWhole bytes = (packet : Packet) × (first_of bytes ≡ Ok (Some (packet, length bytes)))

-- a whole packet or a fault is at the front
abbrev pub IsFound : Front → Type 0
IsFound (Ok None) = ⊥
IsFound (Ok (Some x)) = ⊤
IsFound (Err fault) = ⊤

abbrev pub IsDecided : List ℕ → Type 0
IsDecided bytes = IsFound (first_of bytes)

-- the broker makes one step at most: nothing is whole behind the first packet of a stranger
abbrev pub IsOneStep : Asking → World → Type 0
IsOneStep (to_broker client) w = ⊤
IsOneStep (old_to_broker client) w = ⊤
IsOneStep (break client) w = ⊤
IsOneStep (pump client) w = ⊤
IsOneStep tick w = ⊤
IsOneStep (stranger name bytes) w = AreAlike name w × (first_of (held_after (bytes_come name bytes w)) ≡ Ok None)

-- ---- events of one step each

-- Pieces that come if these bytes are held: each but the last ends with a packet, and of the last no more than one is
-- whole.
abbrev pub AreCut : List ℕ → List (List ℕ) → Type 0
AreCut held [] = ⊥
AreCut held (piece ∷ []) = first_of (held_after (held ++ piece)) ≡ Ok None
AreCut held (piece ∷ next ∷ more) = IsWhole (held ++ piece) × AreCut [] (next ∷ more)

abbrev pub come_in : List ℕ → List ℕ → Event
come_in name bytes = ask (stranger name bytes)

-- what is asked for: bytes of a stranger come piece by piece
abbrev pub UnrollsAsking : Asking → World → List Event → Type 0
UnrollsAsking (to_broker client) w es = es ≡ ask (to_broker client) ∷ []
UnrollsAsking (old_to_broker client) w es = es ≡ ask (old_to_broker client) ∷ []
UnrollsAsking (break client) w es = es ≡ ask (break client) ∷ []
UnrollsAsking (pump client) w es = es ≡ ask (pump client) ∷ []
UnrollsAsking tick w es = es ≡ ask tick ∷ []
UnrollsAsking (stranger name bytes) w es =
    (pieces : List (List ℕ)) × (concat pieces ≡ bytes) × AreCut (bytes_held (stranger_named name w)) pieces
    × (es ≡ map (come_in name) pieces)

-- a stop after the commit of the first step: that step, and a restart; of a stranger's bytes those up to the first packet
-- come
abbrev pub UnrollsStop : Asking → World → List Event → Type 0
UnrollsStop (to_broker client) w es = es ≡ ask (to_broker client) ∷ restart ∷ []
UnrollsStop (old_to_broker client) w es = es ≡ ask (old_to_broker client) ∷ restart ∷ []
UnrollsStop (break client) w es = es ≡ ask (break client) ∷ restart ∷ []
UnrollsStop (pump client) w es = es ≡ ask (pump client) ∷ restart ∷ []
UnrollsStop tick w es = es ≡ ask tick ∷ restart ∷ []
UnrollsStop (stranger name bytes) w es =
    (part : List ℕ) × (more : List ℕ) × (part ++ more ≡ bytes) × ((more ≡ []) ⊎ IsDecided (bytes_come name part w))
    × (first_of (held_after (bytes_come name part w)) ≡ Ok None)
    × (es ≡ come_in name part ∷ restart ∷ [])

-- the events of one step each that an event comes to in this world
abbrev pub Unrolls : Event → World → List Event → Type 0
Unrolls (publisher client) w es = es ≡ publisher client ∷ []
Unrolls (receiver client window aliases) w es = es ≡ receiver client window aliases ∷ []
Unrolls (connect_end client clean) w es = es ≡ connect_end client clean ∷ []
Unrolls (give_up client) w es = es ≡ give_up client ∷ []
Unrolls (publish client d) w es = es ≡ publish client d ∷ []
Unrolls (subscribe client x) w es = es ≡ subscribe client x ∷ []
Unrolls (to_end client) w es = es ≡ to_end client ∷ []
Unrolls (clock wait) w es = es ≡ clock wait ∷ []
Unrolls (ask a) w es = UnrollsAsking a w es
Unrolls restart w es = es ≡ restart ∷ []
Unrolls (stop_before a) w es = es ≡ stop_before a ∷ []
Unrolls (stop_after a) w es = UnrollsStop a w es

abbrev pub turn : MemberChoice → Event → Turn
turn choice e = record { event = e; choice = choice }

-- strangers of one name, whatever it is, hold the same
abbrev pub AreAllAlike : World → Type 0
AreAllAlike w = (name : List ℕ) → AreAlike name w

-- nothing whole is held of a stranger's bytes: each packet was answered as it came
abbrev pub HoldNoPacket : World → Type 0
HoldNoPacket w = (name : List ℕ) → first_of (bytes_held (stranger_named name w)) ≡ Ok None

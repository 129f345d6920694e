-- The cut of a stream of bytes into packets, and what cuts it (MQTT 5.0, 2.1).
use Rattle.std.specs.Prelude.{◌≡◌, ◌≢◌, ℕ, ◌+◌, ◌-◌, ◌%◌, ◌^◌, ◌≤◌, List, [], ◌∷◌, ◌++◌, length, take, drop, Option, None, Some, Ok, Err}
use Rattle.mqtt_packet.specs.declared.parts.fault.Fault.{Fault}
use Rattle.mqtt_packet.specs.declared.parts.fault.Fault.TheVariants.{Memory}
use Rattle.mqtt_packet.specs.declared.codec.packet.Packet.{Packet}
use Rattle.mqtt_base.specs.declared.limits.TheConstants.{PACKET_LIMIT}
use Rattle.mqtt_packet.specs.codec.Packets.{Spells}
use Rattle.mqtt_packet.specs.stream.Front.{first_of}

-- a packet of a stream, the place of its first byte, and its size in bytes
pub record Item : Type 0 where
  pub place : ℕ
  pub size : ℕ
  pub packet : Packet

-- places are counted modulo 2^64
abbrev pub place_after : ℕ → ℕ → ℕ
place_after place n = (place + n) % 2 ^ 64

-- From this place on the stream is these packets. Then comes the rest, at the place end.
abbrev pub IsCut : ℕ → List ℕ → List Item → ℕ → List ℕ → Type 0
IsCut place stream [] end rest = (end ≡ place) × (rest ≡ stream)
IsCut place stream (i ∷ items) end rest =
    (i.place ≡ place) × (first_of stream ≡ Ok (Some (i.packet, i.size))) × IsCut (place_after place i.size) (drop i.size stream) items end rest

-- how a stream ends: with less than a whole packet, at its place, or with a fault at its place
pub data Ending : Type 0 where
  short_at : (place : ℕ) (left : List ℕ) → Ending
  fault_at : (place : ℕ) (fault : Fault) → Ending

-- so ends a stream whose packets end here, before the rest
abbrev pub EndsAs : ℕ → List ℕ → Ending → Type 0
EndsAs end rest (short_at place left) = (place ≡ end) × (left ≡ rest) × (first_of rest ≡ Ok None)
EndsAs end rest (fault_at place fault) = (place ≡ end) × (first_of rest ≡ Err fault)

-- the stream is these packets, and ends so
abbrev pub IsStream : List ℕ → List Item → Ending → Type 0
IsStream stream items ending = (end : ℕ) × (rest : List ℕ) × IsCut 0 stream items end rest × EndsAs end rest ending

-- ---- packets one after the other

-- each of the packets with a spelling, of at most PACKET_LIMIT bytes
abbrev pub AreSpelled : List (Packet × List ℕ) → Type 0
AreSpelled [] = Unit {0}
AreSpelled (x ∷ xs) = Spells x.0 x.1 × (length x.1 ≤ PACKET_LIMIT) × AreSpelled xs

-- the spellings, one after the other
abbrev pub joined_bytes : List (Packet × List ℕ) → List ℕ
joined_bytes [] = []
joined_bytes (x ∷ xs) = x.1 ++ joined_bytes xs

-- the packets, from this place on
abbrev pub items_from : ℕ → List (Packet × List ℕ) → List Item
items_from place [] = []
items_from place (x ∷ xs) = record { place = place; size = length x.1; packet = x.0 } ∷ items_from (place_after place (length x.1)) xs

-- the place behind them
abbrev pub end_from : ℕ → List (Packet × List ℕ) → ℕ
end_from place [] = place
end_from place (x ∷ xs) = end_from (place_after place (length x.1)) xs

-- ---- a framer

-- the bytes that it holds, and the place of the first of them in the stream
pub record Framing : Type 0 where
  pub held : List ℕ
  pub place : ℕ

abbrev pub empty : Framing
empty = record { held = []; place = 0 }

-- the first of bytes, if there are any
abbrev pub first_byte : List ℕ → Option ℕ
first_byte [] = None
first_byte (b ∷ bytes) = Some b

-- without the first n bytes
abbrev pub after : ℕ → Framing → Framing
after n f = record { held = drop n f.held; place = place_after f.place n }

-- the fault that the held bytes begin with, and its place
abbrev pub Stands : Framing → Fault × ℕ → Type 0
Stands f e = (e.1 ≡ f.place) × (first_of f.held ≡ Err e.0)

-- the same, or want of memory
abbrev pub Refuses : Framing → Fault × ℕ → Type 0
Refuses f e = (e.1 ≡ f.place) × (e.0 ≢ Memory → first_of f.held ≡ Err e.0)

-- a packet was found, seen by view, with its place, or none is whole
abbrev pub Finds : {X : Type 0} → (X → Packet) → Framing → Option (X × ℕ) → Type 0
Finds view f None = first_of f.held ≡ Ok None
Finds view f (Some x) = (n : ℕ) × (first_of f.held ≡ Ok (Some (view x.0, n))) × (x.1 ≡ f.place)

-- a packet was found, seen by view, with its place and its size, or none is whole
abbrev pub FindsSized : {X : Type 0} → (X → Packet) → Framing → Option (X × ℕ × ℕ) → Type 0
FindsSized view f None = first_of f.held ≡ Ok None
FindsSized view f (Some x) = (first_of f.held ≡ Ok (Some (view x.0, x.2))) × (x.1 ≡ f.place)

-- a packet was given with its place, and is held no longer, or none is whole
abbrev pub Gives : Framing → Option (Packet × ℕ) → Framing → Type 0
Gives old None new = (first_of old.held ≡ Ok None) × (new ≡ old)
Gives old (Some x) new = (n : ℕ) × (first_of old.held ≡ Ok (Some (x.0, n))) × (x.1 ≡ old.place) × (new ≡ after n old)

-- ---- runs of a framer

-- a call that changed it: it took these bytes, gave so many back, or gave this packet
pub data Call : Type 0 where
  took : (piece : List ℕ) → Call
  gave_back : (count : ℕ) → Call
  gave : (item : Item) → Call

-- without the last n of the bytes
abbrev pub without_last : ℕ → List ℕ → List ℕ
without_last n bytes = take (length bytes - n) bytes

-- these calls, one after the other, lead from one framer to the other
abbrev pub IsRun : Framing → List Call → Framing → Type 0
IsRun f [] g = g ≡ f
IsRun f (took piece ∷ calls) g = IsRun (record f { held = f.held ++ piece }) calls g
IsRun f (gave_back n ∷ calls) g = (n ≤ length f.held) × IsRun (record f { held = without_last n f.held }) calls g
IsRun f (gave i ∷ calls) g = (i.place ≡ f.place) × (first_of f.held ≡ Ok (Some (i.packet, i.size))) × IsRun (after i.size f) calls g

-- the bytes that were taken and not given back, after these
abbrev pub taken_after : List ℕ → List Call → List ℕ
taken_after taken [] = taken
taken_after taken (took piece ∷ calls) = taken_after (taken ++ piece) calls
taken_after taken (gave_back n ∷ calls) = taken_after (without_last n taken) calls
taken_after taken (gave i ∷ calls) = taken_after taken calls

abbrev pub taken_of : List Call → List ℕ
taken_of calls = taken_after [] calls

-- the packets that were given
abbrev pub given_of : List Call → List Item
given_of [] = []
given_of (took piece ∷ calls) = given_of calls
given_of (gave_back n ∷ calls) = given_of calls
given_of (gave i ∷ calls) = i ∷ given_of calls

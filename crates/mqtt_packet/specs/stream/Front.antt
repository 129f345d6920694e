-- What the bytes that have come begin with: nothing whole yet, a packet, or a fault (MQTT 5.0, 2.1.4).
use Rattle.std.specs.Prelude.{◌≡◌, ℕ, ◌+◌, ◌-◌, ◌≤◌, nat_lt, if◌then◌else◌, List, [], ◌∷◌, length, take, drop, Option, None, Some, Result, Ok, Err}
use Rattle.mqtt_base.specs.declared.fault.ReadFault.{ReadFault}
use Rattle.mqtt_base.specs.declared.fault.ReadFault.TheVariants.{Short, Overlong, BadText}
use Rattle.mqtt_base.specs.Reading.{varint_at}
use Rattle.mqtt_packet.specs.declared.parts.fault.Fault.{Fault}
use Rattle.mqtt_packet.specs.declared.parts.fault.Fault.TheVariants.{Malformed, TooLarge}
use Rattle.mqtt_base.specs.declared.limits.TheConstants.{PACKET_LIMIT}
use Rattle.mqtt_packet.specs.declared.codec.head.Head.{Head}
use Rattle.mqtt_packet.specs.declared.codec.packet.Packet.{Packet}
use Rattle.mqtt_packet.specs.declared.codec.packet.Packet.TheVariants as packets
use Rattle.mqtt_packet.specs.codec.Heads.{head_of}
use Rattle.mqtt_packet.specs.codec.Frames.{packet_at}

-- Behind a first byte, of count bytes: the Remaining Length and what follows it. A packet above
-- PACKET_LIMIT is refused as soon as its length is known.
abbrev pub size_by : ℕ → Result (ℕ × List ℕ) ReadFault → Result (Option ℕ) Fault
size_by count (Err Short) = Ok None
size_by count (Err Overlong) = Err Malformed
size_by count (Err BadText) = Err Malformed
size_by count (Ok x) =
    if nat_lt PACKET_LIMIT (1 + (count - length x.1) + x.0) then Err TooLarge
    else if nat_lt (length x.1) x.0 then Ok None
    else Ok (Some (1 + (count - length x.1) + x.0))

-- a first byte that is wrong is refused at once
abbrev pub size_behind : Option Head → List ℕ → Result (Option ℕ) Fault
size_behind None bytes = Err Malformed
size_behind (Some h) bytes = size_by (length bytes) (varint_at bytes)

-- the size of the whole packet at the front
unfoldable pub size_at : List ℕ → Result (Option ℕ) Fault
size_at [] = Ok None
size_at (b ∷ bytes) = size_behind (head_of b) bytes

abbrev pub with_size : ℕ → Result Packet Fault → Result (Option (Packet × ℕ)) Fault
with_size n (Ok p) = Ok (Some (p, n))
with_size n (Err f) = Err f

abbrev pub first_by : List ℕ → Result (Option ℕ) Fault → Result (Option (Packet × ℕ)) Fault
first_by bytes (Ok None) = Ok None
first_by bytes (Ok (Some n)) = with_size n (packet_at (take n bytes))
first_by bytes (Err f) = Err f

-- the first whole packet and its size, or the fault that the bytes decide, or neither yet
unfoldable pub first_of : List ℕ → Result (Option (Packet × ℕ)) Fault
first_of bytes = first_by bytes (size_at bytes)

-- What a function found, a packet seen by view and its size, is what the bytes begin with.
abbrev pub GivesFirst : {X : Type 0} → (X → Packet) → Result (Option (X × ℕ)) Fault → Result (Option (Packet × ℕ)) Fault → Type 0
GivesFirst view (Ok None) first = first ≡ Ok None
GivesFirst view (Ok (Some x)) first = first ≡ Ok (Some (view x.0, x.1))
GivesFirst view (Err f) first = first ≡ Err f

-- what a PUBLISH of n bytes ends with is its payload (3.3.3)
abbrev pub EndsWithPayload : Packet → ℕ → List ℕ → Type 0
EndsWithPayload (packets.Publish p) n bytes = (length p.payload ≤ n) × (p.payload ≡ drop (n - length p.payload) (take n bytes))
EndsWithPayload p n bytes = Unit {0}

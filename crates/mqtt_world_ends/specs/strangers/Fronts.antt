-- What bytes begin with, and the first piece of them (MQTT 5.0, 2.1.4, 4.13).
use Rattle.std.specs.Prelude.{◌≡◌, ◌⊎◌, ℕ, ◌<◌, ◌≤◌, Bool, ◌||◌, List, [], ◌++◌, length, take, drop, Option, None, Some, Ok, Err}
use Rattle.std.specs.Prelude.{option_to_list}
use Rattle.std.specs.List.{list_any}
use Rattle.mqtt_base.specs.declared.limits.TheConstants.{PACKET_LIMIT}
use Rattle.mqtt_packet.specs.declared.parts.fault.Fault.{Fault}
use Rattle.mqtt_packet.specs.declared.codec.packet.Packet.{Packet}
use Rattle.mqtt_packet.specs.stream.Front.{first_of}
use Rattle.mqtt_rules.specs.step.Piece.{first_call}
use Rattle.mqtt_world_model.specs.model.World.{World, bytes_name, held_after, is_end}
use Rattle.mqtt_world_model.specs.single_steps.Unrolled.{IsWhole}
use Rattle.mqtt_world_ends.specs.declared.strangers.front.Front.{Front}
use Rattle.mqtt_world_ends.specs.declared.strangers.front.Front.TheVariants.{Partial, Whole, Faulty}

-- the first of these bytes, which decide what all of them begin with
pub record Decides (front bytes : List ℕ) : Type 0 where
  pub first : front ≡ take (length front) bytes
  pub same : first_of bytes ≡ first_of front
  pub within : length front ≤ PACKET_LIMIT

-- a packet of so many bytes is at the front
pub record BeginsWhole (bytes : List ℕ) (size : ℕ) : Type 0 where
  pub packet : Packet
  pub is : first_of bytes ≡ Ok (Some (packet, size))
  pub alone : first_of (take size bytes) ≡ Ok (Some (packet, size))
  pub some : 0 < size
  pub inside : size ≤ length bytes
  pub within : size ≤ PACKET_LIMIT

-- a fault is at the front, and so many bytes decide it
pub record BeginsFaulty (bytes : List ℕ) (size : ℕ) : Type 0 where
  pub fault : Fault
  pub is : first_of bytes ≡ Err fault
  pub alone : first_of (take size bytes) ≡ Err fault
  pub inside : size ≤ length bytes
  pub within : size ≤ PACKET_LIMIT

abbrev pub IsFront : List ℕ → Front → Type 0
IsFront bytes Partial = first_of bytes ≡ Ok None
IsFront bytes (Whole size) = BeginsWhole bytes size
IsFront bytes (Faulty size) = BeginsFaulty bytes size

-- ---- the next piece

-- of bytes that come if these are held a piece, and more behind it: it ends with the first packet, or nothing is
-- behind it
pub record IsNextPiece (held piece more : List ℕ) : Type 0 where
  pub ends : (more ≡ []) ⊎ IsWhole (held ++ piece)
  pub one : first_of (held_after (held ++ piece)) ≡ Ok None

-- bytes that ask of the broker what these do, on any line, and of which nothing is left
pub record AsksFor (bytes given : List ℕ) : Type 0 where
  pub same : first_of given ≡ first_of bytes
  pub asks : (line : ℕ) → first_call line given ≡ first_call line bytes
  pub left : held_after given ≡ []
  pub within : length given ≤ PACKET_LIMIT

-- what is given to the broker of bytes that have come: nothing if nothing is whole
abbrev pub IsGiven : List ℕ → Option (List ℕ) → Type 0
IsGiven bytes None = first_of bytes ≡ Ok None
IsGiven bytes (Some given) = AsksFor bytes given

-- ---- whom the CONNECTs name

-- whether an end has one of these names
abbrev pub is_end_among : List (List ℕ) → World → Bool
is_end_among names w = list_any (λ name. is_end name w) names

-- the packets of these bytes name an end if one of these names is an end's
abbrev pub NamesThese : List ℕ → List (List ℕ) → Type 0
NamesThese bytes names = (w : World) → bytes_name (length bytes) bytes w ≡ is_end_among names w

-- the packet at the front, of so many bytes, names this client, if it names one; there is none if nothing of these
-- bytes names anyone
abbrev pub NamesFirst : List ℕ → Option (ℕ × Option (List ℕ)) → Type 0
NamesFirst bytes None = (w : World) → bytes_name (length bytes) bytes w ≡ is_end_among [] w
NamesFirst bytes (Some x) =
    (0 < x.0) × (x.0 ≤ length bytes)
    × ((w : World) → bytes_name (length bytes) bytes w
    ≡ (is_end_among (option_to_list x.1) w || bytes_name (length (drop x.0 bytes)) (drop x.0 bytes) w))

-- What each line holds, and what its first bytes ask of the broker (MQTT 5.0, 2.1, 4.13).
use Rattle.std.specs.Prelude.{◌≡◌, ℕ, ◌<◌, List, Option, Some, None, Ok, slice_index}
use Rattle.mqtt_packet.specs.declared.codec.packet.Packet.{Packet}
use Rattle.mqtt_packet.specs.stream.Front.{first_of}
use Rattle.mqtt_packet.specs.stream.Stream.{Framing, empty, without_last}
use Rattle.mqtt_records.specs.lists.Order.{row_at, change_row}
use Rattle.mqtt_rules.specs.step.Contents.{IsTaken}
use Rattle.mqtt_rules.specs.step.Step.{Call, Input, BadInput}
use Rattle.mqtt_broker.specs.declared.engine.asked.Asked.{Asked}
use Rattle.mqtt_broker.specs.declared.engine.asked.Asked.TheVariants as asked

-- a line, and what it holds
pub record HeldLine : Type 0 where
  pub line : ℕ
  pub framing : Framing

abbrev pub line_of : HeldLine → ℕ
line_of h = h.line

abbrev pub begun : ℕ → HeldLine
begun line = record { line = line; framing = empty }

-- what a line holds, nothing if it isn't among them
abbrev pub framing_of : Option HeldLine → Framing
framing_of None = empty
framing_of (Some h) = h.framing

abbrev pub framing_at : ℕ → List HeldLine → Framing
framing_at line hs = framing_of (row_at line_of line hs)

abbrev pub in_framing : (Framing → Framing) → HeldLine → HeldLine
in_framing f h = record h { framing = f h.framing }

-- another is held by one line, and all else as before
abbrev pub changed_at : ℕ → (Framing → Framing) → List HeldLine → List HeldLine
changed_at line f hs = change_row line_of line (in_framing f) hs

-- the last bytes that came are given back
abbrev pub given_back : ℕ → Framing → Framing
given_back count f = record f { held = without_last count f.held }

-- what it holds is lent, and it holds nothing meanwhile
abbrev pub lent : HeldLine → HeldLine
lent = in_framing (λ framing. empty)

-- and is held again
abbrev pub back_in : HeldLine → HeldLine → HeldLine
back_in held = in_framing (λ framing. held.framing)

-- what is asked, as a call on its line
abbrev pub call_asked : ℕ → Asked → Call
call_asked line (asked.Whole packet size) = Input line packet
call_asked line (asked.Bad is_connect code) = BadInput line is_connect code.0

-- and a packet that is asked for is lawful, and no longer than a packet may be
abbrev pub IsLawfulAsked : Asked → Type 0
IsLawfulAsked (asked.Whole packet size) = IsTaken packet
IsLawfulAsked (asked.Bad is_connect code) = Unit {0}

-- bytes begin with a whole packet of this size
abbrev pub BeginsWith : ℕ → List ℕ → Type 0
BeginsWith size bytes = (packet : Packet) × (first_of bytes ≡ Ok (Some (packet, size)))

-- the size of a packet that is asked for is the one that the bytes tell
abbrev pub IsSizedAsked : List ℕ → Asked → Type 0
IsSizedAsked bytes (asked.Whole packet size) = BeginsWith size bytes
IsSizedAsked bytes (asked.Bad is_connect code) = Unit {0}

abbrev pub AreBytes : List ℕ → Type 0
AreBytes bytes = (i : ℕ) → slice_index bytes i < 256

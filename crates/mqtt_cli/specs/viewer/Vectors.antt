-- Which vectors are right, what `vectors` prints, and what it did when it stopped (ours).
use Rattle.std.specs.Prelude.{◌≡◌, ◌≢◌, ◌↔◌, ℕ, ◌+◌, ◌==◌, Bool, true, false, if◌then◌else◌, List, [], ◌∷◌, ◌++◌, length, Option, None, Some, Result, Ok, Err, IsTrue, codes}
use Rattle.std.specs.Fmt.{decimal}
use Rattle.std.specs.Io.KnownBytes.{Appends}
use Rattle.mqtt_packet.specs.declared.parts.fault.Fault.{Fault}
use Rattle.mqtt_packet.specs.declared.parts.fault.Fault.TheVariants as faults
use Rattle.mqtt_packet.specs.declared.codec.packet.Packet.{Packet}
use Rattle.mqtt_packet.specs.parts.Bits.{bit}
use Rattle.mqtt_packet.specs.codec.Packets.{HasSpelling, shortest_of}
use Rattle.mqtt_packet.specs.stream.Front.{first_of}
use Rattle.mqtt_cli.specs.viewer.PacketText.{fields_alone, packet_text}
use Rattle.mqtt_cli.specs.viewer.View.{line_feed}
use Rattle.mqtt_cli.specs.declared.viewer.vectors_table.Gives.{Gives}
use Rattle.mqtt_cli.specs.declared.viewer.vectors_table.Gives.TheVariants as gives
use Rattle.mqtt_cli.specs.declared.viewer.vectors_table.Vector.{Vector}
use Rattle.mqtt_cli.specs.declared.viewer.viewer.Status.{Status}
use Rattle.mqtt_cli.specs.declared.viewer.viewer.Status.TheVariants.{Whole, Faulty}

-- ---- right vectors

-- this line, without its place, and this shortest spelling are those of a packet of this size
abbrev pub IsShown : Gives → ℕ → Packet → Type 0
IsShown (gives.Packet line shortest) size packet =
    HasSpelling packet × (line.now ≡ packet_text fields_alone size packet) × (shortest.now ≡ shortest_of packet)
IsShown (gives.Refusal fault) size packet = ⊥

-- What is known of a frame is what it gives: it is one whole packet, with this line and this shortest spelling, or it
-- is refused so.
abbrev pub IsRight : List ℕ → Gives → Type 0
IsRight frame (gives.Packet line shortest) =
    (packet : Packet) × (first_of frame ≡ Ok (Some (packet, length frame))) × IsShown (gives.Packet line shortest) (length frame) packet
IsRight frame (gives.Refusal fault) = first_of frame ≡ Err fault

-- What was found of a frame: that it is one whole packet, or neither that nor refused, or its refusal. Want of memory
-- says nothing of it.
abbrev pub FindsWhole : List ℕ → Result (Option Packet) Fault → Type 0
FindsWhole frame (Ok (Some packet)) = first_of frame ≡ Ok (Some (packet, length frame))
FindsWhole frame (Ok None) =
    ((packet : Packet) → first_of frame ≢ Ok (Some (packet, length frame))) × ((fault : Fault) → first_of frame ≢ Err fault)
FindsWhole frame (Err fault) = fault ≢ faults.Memory → first_of frame ≡ Err fault

-- each of the outcomes is whether its vector is right
abbrev pub AreJudged : List Vector → List Bool → Type 0
AreJudged [] [] = Unit {0}
AreJudged [] (is_right ∷ rights) = ⊥
AreJudged (vector ∷ vectors) [] = ⊥
AreJudged (vector ∷ vectors) (is_right ∷ rights) =
    (IsTrue is_right ↔ IsRight vector.frame.now vector.gives) × AreJudged vectors rights

-- ---- the report

abbrev pub outcome_text : Bool → List ℕ
outcome_text true = codes "ok"
outcome_text false = codes "wrong"

-- `V1 ok`, or `V1 wrong`
abbrev pub vector_line : ℕ → Bool → List ℕ
vector_line number is_right = codes "V" ++ decimal number ++ codes " " ++ outcome_text is_right ++ line_feed ∷ []

-- a line for each vector, counted from this number
abbrev pub lines_from : ℕ → List Bool → List ℕ
lines_from number [] = []
lines_from number (is_right ∷ rights) = vector_line number is_right ++ lines_from (number + 1) rights

-- how many are right
abbrev pub how_many : List Bool → ℕ
how_many [] = 0
how_many (is_right ∷ rights) = bit is_right + how_many rights

-- the lines from number 1 on, and `K of N`
abbrev pub report : List Bool → List ℕ
report rights =
    lines_from 1 rights ++ decimal (how_many rights) ++ codes " of " ++ decimal (length rights) ++ line_feed ∷ []

-- The report on 22 vectors was written, each judged by what its frame gives, and the status is 0 if all of them are right.
pub record Reports (before after : Option (List ℕ)) (status : Status) : Type 0 where
  pub vectors : List Vector
  pub rights : List Bool
  pub all : length vectors ≡ 22
  pub judged : AreJudged vectors rights
  pub wrote : Appends before after (report rights)
  pub status_is : status ≡ (if how_many rights == 22 then Whole else Faulty)

-- A stream of bytes comes on a line in pieces, with other calls between them: what of it is answered (MQTT 5.0, 2.1, 4.13).
use Rattle.std.specs.Prelude.{◌≡◌, ⊤, ℕ, Bool, true, false, List, [], ◌∷◌, ◌++◌, drop, Some, None, is_some, Result, Ok, Err}
use Rattle.mqtt_packet.specs.declared.parts.fault.Fault.{Fault}
use Rattle.mqtt_packet.specs.declared.codec.packet.Packet.{Packet}
use Rattle.mqtt_packet.specs.stream.Front.{first_of}
use Rattle.mqtt_packet.specs.stream.Stream.{Ending, Framing, Item, empty, fault_at, short_at}
use Rattle.mqtt_rules.specs.declared.step.Capacity.{Capacity}
use Rattle.mqtt_rules.specs.step.Piece.{Front, Pieced, fed, pieced}
use Rattle.mqtt_rules.specs.step.State.{Broker, MemberChoice, line_at}
use Rattle.mqtt_rules.specs.step.Step.{Call, stepped}

-- ---- what comes

-- a piece of the stream on the line, or another call, on whatever line; each with its moment and the members chosen
pub data Coming : Type 0 where
  Piece : (limits : Capacity) (choice : MemberChoice) (now : ℕ) (piece : List ℕ) → Coming
  Other : (limits : Capacity) (choice : MemberChoice) (now : ℕ) (call : Call) → Coming

-- the broker, what the line holds, what of the stream wasn't taken yet, and whether the last answer says to call again
pub record Giving : Type 0 where
  pub broker : Broker
  pub framing : Framing
  pub left : List ℕ
  pub again : Bool

-- the line holds nothing yet, and nothing was taken
abbrev pub given_first : List ℕ → Broker → Giving
given_first stream b = record { broker = b; framing = empty; left = stream; again = false }

-- what the line holds, and what wasn't taken, after the step of a piece
abbrev pub after_piece : Pieced → List ℕ → Giving
after_piece p left = record { broker = p.broker; framing = p.framing; left = drop p.out.taken left; again = p.out.again }

abbrev pub after_coming : ℕ → Coming → Giving → Giving
after_coming line (Piece limits choice now piece) g = after_piece (pieced limits choice now line piece g.framing g.broker) g.left
after_coming line (Other limits choice now call) g = record g { broker = stepped limits choice now call g.broker }

abbrev pub after_comings : ℕ → List Coming → Giving → Giving
after_comings line [] g = g
after_comings line (c ∷ cs) g = after_comings line cs (after_coming line c g)

-- ---- the stream is given on while the line stands

abbrev pub IsStanding : ℕ → Giving → Type 0
IsStanding line g = is_some (line_at line g.broker) ≡ true

abbrev pub IsFrontOf : {X : Type 0} → List X → List X → Type 0
IsFrontOf {X} front all = (more : List X) × (front ++ more ≡ all)

-- each piece is a front of what wasn't taken yet
abbrev pub IsNext : Coming → List ℕ → Type 0
IsNext (Piece limits choice now piece) left = IsFrontOf piece left
IsNext (Other limits choice now call) left = ⊤

abbrev pub IsGivenOn : ℕ → List Coming → Giving → Type 0
IsGivenOn line [] g = ⊤
IsGivenOn line (c ∷ cs) g = IsStanding line g × IsNext c g.left × IsGivenOn line cs (after_coming line c g)

-- all is taken, and the last answer doesn't say to call again; the line stands
pub record IsGivenWhole (line : ℕ) (g : Giving) : Type 0 where
  pub stands : IsStanding line g
  pub taken : g.left ≡ []
  pub answered : g.again ≡ false

-- ---- what is answered, and what there is to answer

-- the packet, or the fault, that the line's bytes begin with, if one is whole
abbrev pub whole_in : Front → List (Result Packet Fault)
whole_in (Ok None) = []
whole_in (Ok (Some x)) = Ok x.0 ∷ []
whole_in (Err fault) = Err fault ∷ []

-- the step of a piece answers what its bytes behind those that were held begin with
abbrev pub answered_in : Coming → Giving → List (Result Packet Fault)
answered_in (Piece limits choice now piece) g = whole_in (first_of (fed piece g.framing).held)
answered_in (Other limits choice now call) g = []

abbrev pub answered : ℕ → List Coming → Giving → List (Result Packet Fault)
answered line [] g = []
answered line (c ∷ cs) g = answered_in c g ++ answered line cs (after_coming line c g)

-- the packets of a stream, and the fault that ends it
abbrev pub packets_of : List Item → List (Result Packet Fault)
packets_of [] = []
packets_of (i ∷ items) = Ok i.packet ∷ packets_of items

abbrev pub fault_in : Ending → List (Result Packet Fault)
fault_in (short_at place left) = []
fault_in (fault_at place fault) = Err fault ∷ []

abbrev pub there_in : List Item → Ending → List (Result Packet Fault)
there_in items ending = packets_of items ++ fault_in ending

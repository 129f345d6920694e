-- The step of a piece: bytes come on a line; the first whole packet, or fault, is answered (MQTT 5.0, 2.1, 4.13).
use Rattle.std.specs.Prelude.{◌≡◌, ℕ, ◌-◌, ◌/◌, min, Bool, true, false, ◌&&◌, List, [], ◌∷◌, ◌++◌, length, take, nat_eq, Option, Some, None, is_some, Result, Ok, Err}
use Rattle.mqtt_base.specs.Codes.{unspecified_error}
use Rattle.mqtt_base.specs.declared.limits.TheConstants.{PACKET_LIMIT}
use Rattle.mqtt_base.specs.declared.reason.Reason.{Reason}
use Rattle.mqtt_packet.specs.declared.parts.fault.Fault.{Fault}
use Rattle.mqtt_packet.specs.declared.codec.packet.Packet.{Packet}
use Rattle.mqtt_packet.specs.parts.Faults.{answer_to}
use Rattle.mqtt_packet.specs.stream.Front.{first_of}
use Rattle.mqtt_packet.specs.stream.Stream.{Framing, after}
use Rattle.mqtt_rules.specs.declared.step.Capacity.{Capacity}
use Rattle.mqtt_rules.specs.step.State.{Line, Broker, MemberChoice, line_at}
use Rattle.mqtt_rules.specs.step.Step.{Call, Input, BadInput, Outcome, nothing_told, at_moment, stepped, told, is_step_spent}

-- what bytes begin with: nothing whole yet, a packet and its size, or a fault
abbrev pub Front : Type 0
Front = Result (Option (Packet × ℕ)) Fault

-- ---- what the bytes of a line ask of the broker

-- CONNECT is type 1, in the high half of the first byte (2.1.2)
abbrev pub begins_connect : List ℕ → Bool
begins_connect [] = false
begins_connect (b ∷ bytes) = nat_eq (b / 16) 1

-- want of memory has no code, and no bytes have this fault
abbrev pub code_of : Option Reason → ℕ
code_of None = unspecified_error
code_of (Some reason) = reason.0

abbrev pub call_by : ℕ → List ℕ → Front → Option Call
call_by line bytes (Ok None) = None
call_by line bytes (Ok (Some x)) = Some (Input line x.0)
call_by line bytes (Err fault) = Some (BadInput line (begins_connect bytes) (code_of (answer_to fault)))

abbrev pub first_call : ℕ → List ℕ → Option Call
first_call line bytes = call_by line bytes (first_of bytes)

-- ---- what a line holds: the bytes that came and were not answered yet

-- as many bytes of a piece are taken as fit, and none behind a fault
abbrev pub taken_by : ℕ → ℕ → Front → ℕ
taken_by held come (Ok x) = min come (PACKET_LIMIT - held)
taken_by held come (Err fault) = 0

abbrev pub bytes_taken : List ℕ → List ℕ → ℕ
bytes_taken held piece = taken_by (length held) (length piece) (first_of held)

abbrev pub fed : List ℕ → Framing → Framing
fed piece f = record f { held = f.held ++ take (bytes_taken f.held piece) piece }

-- the packet that is answered is held no longer
abbrev pub without_by : Front → Framing → Framing
without_by (Ok None) f = f
without_by (Ok (Some x)) f = after x.1 f
without_by (Err fault) f = f

abbrev pub without_first : Framing → Framing
without_first f = without_by (first_of f.held) f

-- more is whole: the next packet, or a fault
abbrev pub is_whole : Front → Bool
is_whole (Ok None) = false
is_whole (Ok (Some x)) = true
is_whole (Err fault) = true

-- ---- the step on what is asked; if nothing is, the moment alone is new

abbrev pub stepped_if : Capacity → MemberChoice → ℕ → Option Call → Broker → Broker
stepped_if limits choice now None b = at_moment now b
stepped_if limits choice now (Some call) b = stepped limits choice now call b

abbrev pub told_if : Capacity → MemberChoice → ℕ → Option Call → Broker → Outcome
told_if limits choice now None b = nothing_told
told_if limits choice now (Some call) b = told limits choice now call b

abbrev pub is_spent_if : Capacity → MemberChoice → ℕ → Option Call → Broker → Bool
is_spent_if limits choice now None b = false
is_spent_if limits choice now (Some call) b = is_step_spent limits choice now call b

-- ---- the step of a piece; on a line that isn't linked nothing is taken or asked

abbrev pub taken_on : Option Line → List ℕ → Framing → ℕ
taken_on None piece f = 0
taken_on (Some l) piece f = bytes_taken f.held piece

abbrev pub call_on : Option Line → List ℕ → Framing → Option Call
call_on None piece f = None
call_on (Some l) piece f = first_call l.number (fed piece f).held

abbrev pub held_on : Option Line → List ℕ → Framing → Framing
held_on None piece f = f
held_on (Some l) piece f = without_first (fed piece f)

-- the state, and what the line holds, after the step; and what it answers: call again if the line stands and more is
-- whole
pub record Pieced : Type 0 where
  pub broker : Broker
  pub framing : Framing
  pub out : Outcome

abbrev pub pieced : Capacity → MemberChoice → ℕ → ℕ → List ℕ → Framing → Broker → Pieced
pieced limits choice now line piece f b =
    let call = call_on (line_at line b) piece f in
    let new = stepped_if limits choice now call b in
    let rest = held_on (line_at line b) piece f in
    record {
      broker = new;
      framing = rest;
      out = record (told_if limits choice now call b) {
        taken = taken_on (line_at line b) piece f;
        again = is_some (line_at line new) && is_whole (first_of rest.held);
      };
    }

-- Step of a piece: some choice of the members leads from the state, and what its line holds, to what is there after it,
-- with this outcome, and no number is spent
pub record PieceStep (limits : Capacity) (old : Broker) (now line : ℕ) (piece : List ℕ) (held : Framing) (new : Pieced)
    : Type 0 where
  pub choice : MemberChoice
  pub unspent : is_spent_if limits choice now (call_on (line_at line old) piece held) old ≡ false
  pub is : new ≡ pieced limits choice now line piece held old

-- What the broker has at hand for its packets: identifiers in flight, and codes that tell of faults (MQTT 5.0, 2.2.1, 4.13).
use Rattle.std.specs.Prelude.{◌≡◌, ℕ, ◌<◌, ◌≤◌, ◌^◌, false}
use Rattle.std.specs.List.{AllByRecursion}
use Rattle.mqtt_base.specs.declared.session.Phase.{Phase}
use Rattle.mqtt_base.specs.declared.session.Phase.TheVariants.{Waiting, Sent, Released, Oversize}
use Rattle.mqtt_packet.specs.parts.Faults.{answer_to}
use Rattle.mqtt_packet.specs.declared.parts.fault.Fault.{Fault}
use Rattle.mqtt_records.specs.messages.Queue.{CopyRow}
use Rattle.mqtt_records.specs.declared.state.records.Records.{Records}
use Rattle.mqtt_records.specs.declared.state.session.Session.{Session}
use Rattle.mqtt_rules.specs.step.Contents.{AreContentsLawful, TakesLawful}
use Rattle.mqtt_rules.specs.step.Laws.{IsOrdered}
use Rattle.mqtt_rules.specs.step.Piece.{code_of}
use Rattle.mqtt_rules.specs.step.State.{Broker, MemberChoice, stored}
use Rattle.mqtt_rules.specs.step.Step.{Call, NewLine, Input, BadInput, Lost, Pump, Tick, is_step_spent}
use Rattle.mqtt_rules.specs.declared.step.Capacity.{Capacity}

-- a packet identifier: from 1, in two bytes (2.2.1)
pub record IsPacketIdentifier (identifier : ℕ) : Type 0 where
  pub some : 1 ≤ identifier
  pub fits : identifier < 2 ^ 16

-- a copy that was sent has one
abbrev pub IsSentPhase : Phase → Type 0
IsSentPhase Waiting = Unit {0}
IsSentPhase (Sent identifier) = IsPacketIdentifier identifier
IsSentPhase (Released identifier order) = IsPacketIdentifier identifier
IsSentPhase (Oversize identifier order) = IsPacketIdentifier identifier

-- so it is with each copy in a session's queue
abbrev pub HasSentPhases : Session → Type 0
HasSentPhases s = AllByRecursion (λ (row : CopyRow). IsSentPhase row.phase) s.queue

-- and in each session's
abbrev pub HaveSentPhases : Records → Type 0
HaveSentPhases r = AllByRecursion HasSentPhases r.sessions

-- the code of a call for a bad packet is that of some fault (4.13)
abbrev pub TellsFault : Call → Type 0
TellsFault (BadInput line is_connect code) = (fault : Fault) × (code ≡ code_of (answer_to fault))
TellsFault NewLine = Unit {0}
TellsFault (Input line packet) = Unit {0}
TellsFault (Lost line) = Unit {0}
TellsFault (Pump line) = Unit {0}
TellsFault Tick = Unit {0}

-- ---- a broker all of whose packets have spellings, whatever is asked of it

-- lawful contents, tables in order, and identifiers in flight of two bytes
pub record SendsWell (b : Broker) : Type 0 where
  pub contents : AreContentsLawful b
  pub ordered : IsOrdered (stored b)
  pub phases : HaveSentPhases (stored b)

-- a lawful packet no longer than a packet may be, or the code of a fault; and no number is spent
pub record IsAsked (limits : Capacity) (choice : MemberChoice) (now : ℕ) (call : Call) (b : Broker) : Type 0 where
  pub taken : TakesLawful call
  pub tells : TellsFault call
  pub unspent : is_step_spent limits choice now call b ≡ false

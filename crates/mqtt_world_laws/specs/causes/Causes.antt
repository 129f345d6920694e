-- Why a copy ends: its client took or refused it, it waited too long, it is too large, its session ended, or it made room
-- for another (MQTT 5.0, 3.1.2.4, 3.1.2.11, 3.3.2.3.3, 4.3).
use Rattle.std.specs.Prelude.{◌≡◌, ◌≢◌, ◌⊎◌, ℕ, ⊤, ◌-◌, ◌/◌, ◌≤◌, ◌<◌, true, false, List, length, Some}
use Rattle.std.specs.List.{AllByRecursion}
use Rattle.mqtt_base.specs.declared.session.Qos.{Qos}
use Rattle.mqtt_base.specs.declared.session.Qos.TheVariants.{AtLeastOnce, ExactlyOnce}
use Rattle.mqtt_base.specs.declared.session.Phase.{Phase}
use Rattle.mqtt_base.specs.declared.session.Phase.TheVariants.{Waiting, Sent, Released, Oversize}
use Rattle.mqtt_base.specs.declared.session.Ending.{Ending}
use Rattle.mqtt_base.specs.declared.session.Ending.TheVariants as endings
use Rattle.mqtt_props.specs.declared.table.PropName.TheVariants.{MessageExpiryInterval}
use Rattle.mqtt_packet.specs.declared.codec.ack.Ack.{Ack}
use Rattle.mqtt_packet.specs.declared.codec.packet.Packet.{Packet}
use Rattle.mqtt_packet.specs.declared.codec.packet.Packet.TheVariants as packets
use Rattle.mqtt_packet.specs.declared.connect.connect.Connect.{Connect}
use Rattle.mqtt_flow.specs.declared.outbound.entry.Full.TheVariants.{Drop}
use Rattle.mqtt_records.specs.declared.messages.message.MessageCopy.{MessageCopy}
use Rattle.mqtt_records.specs.state.Session.{copy_place}
use Rattle.mqtt_records.specs.declared.state.session.Session.{Session}
use Rattle.mqtt_records.specs.lists.Order.{row_at}
use Rattle.mqtt_rules.specs.declared.step.Capacity.{Capacity}
use Rattle.mqtt_rules.specs.step.Closing.{has_due_end}
use Rattle.mqtt_rules.specs.step.Deeds.{whose, Enter, At, Finish}
use Rattle.mqtt_rules.specs.step.Fitting.{has_form}
use Rattle.mqtt_rules.specs.step.Laws.{IsAmong}
use Rattle.mqtt_rules.specs.step.Outbound.{is_new}
use Rattle.mqtt_records.specs.messages.PassedOn.{number_at}
use Rattle.mqtt_rules.specs.step.Packets.{publish_of, size_of}
use Rattle.mqtt_rules.specs.step.State.{Line, line_at, session_at}
use Rattle.mqtt_rules.specs.step.Step.{Call, Input, Pump, Tick}
use Rattle.mqtt_world_model.specs.model.Run.{Turn}
use Rattle.mqtt_world_model.specs.model.World.{World}
use Rattle.mqtt_world_laws.specs.causes.Endings.{EndAt, ends_over}

-- ---- what the step was asked for

-- something of the line on which the copy's session is connected
pub record IsOfItsLine (x : EndAt) (what : ℕ → Call) (line : Line) : Type 0 where
  pub number : ℕ
  pub asked : x.asked.call ≡ Some (what number)
  pub found : line_at number x.asked.step.broker ≡ Some line
  pub its : line.session ≡ Some x.who.birth

abbrev pub IsPumped : EndAt → Line → Type 0
IsPumped x line = IsOfItsLine x Pump line

-- its client's packet is read
abbrev pub IsRead : EndAt → Packet → Type 0
IsRead x packet = (line : Line) × IsOfItsLine x (λ n. Input n packet) line

-- ---- Taken: PUBACK below 0x80 of a copy of QoS 1 that was sent (4.3.2), or PUBCOMP of one whose PUBREC was taken (4.3.3)

pub record IsAcknowledged (x : EndAt) : Type 0 where
  pub packet : Ack
  pub read : IsRead x (packets.Puback packet)
  pub code : packet.reason.0 < 0x80
  pub sent : x.row.phase ≡ Sent packet.identifier
  pub qos : x.row.copy.qos ≡ AtLeastOnce

pub record IsCompleted (x : EndAt) : Type 0 where
  pub packet : Ack
  pub order : ℕ
  pub read : IsRead x (packets.Pubcomp packet)
  pub released : x.row.phase ≡ Released packet.identifier order

-- ---- Refused: PUBACK or PUBREC of 0x80 or above of a copy that was sent (4.3.2, 4.3.3)

pub record IsRefused (x : EndAt) (answer : Ack → Packet) (qos : Qos) : Type 0 where
  pub packet : Ack
  pub read : IsRead x (answer packet)
  pub code : 0x80 ≤ packet.reason.0
  pub sent : x.row.phase ≡ Sent packet.identifier
  pub qos_is : x.row.copy.qos ≡ qos

-- ---- Expired: it waits still, and the whole seconds since its arrival have reached its Message Expiry Interval, as its
-- line is pumped or at a tick (3.3.2.3.3)

pub record HasExpired (x : EndAt) : Type 0 where
  pub interval : ℕ
  pub has : number_at MessageExpiryInterval x.row.copy.content.properties ≡ Some interval
  pub passed : interval ≤ (x.broker.now - x.row.copy.content.arrived) / 1000
  pub waits : x.row.phase ≡ Waiting
  pub asked : (x.asked.call ≡ Some Tick) ⊎ ((line : Line) × IsPumped x line)

-- ---- TooLarge: as its line is pumped its PUBLISH is larger than the client takes there (3.1.2.11.4), with its whole topic and in each
-- form in which it might go out, by what the client was told before it

-- it waits, or was sent; one of QoS 2 that was sent isn't ended so, but released (ours)
abbrev pub MayBeTooLarge : Qos → Phase → Type 0
MayBeTooLarge qos Waiting = ⊤
MayBeTooLarge qos (Sent i) = qos ≢ ExactlyOnce
MayBeTooLarge qos (Released i order) = ⊥
MayBeTooLarge qos (Oversize i order) = ⊥

pub record IsTooLarge (x : EndAt) : Type 0 where
  pub line : Line
  pub pumped : IsPumped x line
  pub larger : line.largest < size_of (publish_of x.row.copy.content.arrived false 1 x.row.copy)
  pub formless : has_form x.row.copy x.broker line ≡ false
  pub phase : MayBeTooLarge x.row.copy.qos x.row.phase

-- and of one that was released so the PUBCOMP comes
pub record HasOutgrown (x : EndAt) : Type 0 where
  pub packet : Ack
  pub order : ℕ
  pub read : IsRead x (packets.Pubcomp packet)
  pub released : x.row.phase ≡ Oversize packet.identifier order

-- ---- SessionEnded: its session ends in that step, since its end is due (3.1.2.11.2), or by Clean Start (3.1.2.4)

-- CONNECT of its client with Clean Start 1
pub record StartsClean (x : EndAt) : Type 0 where
  pub number : ℕ
  pub packet : Connect
  pub asked : x.asked.call ≡ Some (Input number (packets.Connect packet))
  pub clean : packet.clean_start ≡ true
  pub client : packet.client_identifier ≡ x.who.client

pub record HasSessionEnded (x : EndAt) (s : Session) : Type 0 where
  pub why : (has_due_end x.broker.now s ≡ true) ⊎ StartsClean x
  pub ends : IsAmong (Finish x.who) x.behind

-- ---- Dropped: it waits and is not of this step, its queue is full, and if a full queue drops a copy enters it behind
-- (ours)

pub record HasGivenWay (x : EndAt) (s : Session) : Type 0 where
  pub waits : x.row.phase ≡ Waiting
  pub older : is_new x.asked.step.env.start x.row.copy ≡ false
  pub drops : x.asked.step.env.limits.full ≡ Drop
  pub full : x.asked.step.env.limits.queue ≤ length s.queue
  pub copy : MessageCopy
  pub enters : IsAmong (At x.who (Enter copy)) x.behind

-- ---- together

-- by its session as it stood
abbrev pub IsCause : Ending → EndAt → Session → Type 0
IsCause endings.Taken x s = IsAcknowledged x ⊎ IsCompleted x
IsCause endings.Refused x s = IsRefused x packets.Puback AtLeastOnce ⊎ IsRefused x packets.Pubrec ExactlyOnce
IsCause endings.Expired x s = HasExpired x
IsCause endings.TooLarge x s = IsTooLarge x ⊎ HasOutgrown x
IsCause endings.SessionEnded x s = HasSessionEnded x s
IsCause endings.Dropped x s = HasGivenWay x s

-- the copy stands in its session's queue right before it leaves, and leaves for that cause
pub record HasCause (x : EndAt) : Type 0 where
  pub session : Session
  pub found : session_at x.who.birth x.broker.records ≡ Some session
  pub its : whose session ≡ x.who
  pub stands : row_at copy_place x.row.place session.queue ≡ Some x.row
  pub cause : IsCause x.ending x session

-- each end of a run has its cause
abbrev pub EachHasItsCause : Capacity → List Turn → World → Type 0
EachHasItsCause limits ts w = AllByRecursion HasCause (ends_over limits ts w)

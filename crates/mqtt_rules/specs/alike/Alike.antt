-- Brokers that are the same but for what their waiting copies say (MQTT 5.0, 3.3, 4.6).
use Rattle.std.specs.Prelude.{◌≡◌, ◌⊎◌, ⊤, ℕ, Bool, List, [], ◌∷◌}
use Rattle.mqtt_base.specs.declared.session.Ending.{Ending}
use Rattle.mqtt_topic.specs.declared.sending.form.Form.{Form}
use Rattle.mqtt_packet.specs.declared.codec.packet.Packet.{Packet}
use Rattle.mqtt_packet.specs.declared.codec.packet.Packet.TheVariants.{Publish}
use Rattle.mqtt_records.specs.declared.messages.message.MessageCopy.{MessageCopy}
use Rattle.mqtt_records.specs.messages.Queue.{CopyRow}
use Rattle.mqtt_records.specs.declared.state.session.Session.{Session}
use Rattle.mqtt_records.specs.declared.state.records.Records.{Records}
use Rattle.mqtt_rules.specs.step.Packets.{publish_of}
use Rattle.mqtt_rules.specs.step.Forms.{in_form, other_bytes, published_of}
use Rattle.mqtt_rules.specs.step.State.{Broker, queued_copy}
use Rattle.mqtt_rules.specs.step.Deeds.{Whose, Leave, Deed, At, Send}
use Rattle.mqtt_rules.specs.step.Step.{Call, NewLine, Input, BadInput, Lost, Pump, Tick, Outcome}

-- two lists, one by one
abbrev pub Each : {X : Type 0} → (X → X → Type 0) → List X → List X → Type 0
Each R [] [] = ⊤
Each R [] (y ∷ ys) = ⊥
Each R (x ∷ xs) [] = ⊥
Each R (x ∷ xs) (y ∷ ys) = R x y × Each R xs ys

-- two copies with the same identity, QoS, RETAIN, topic, arrival and expiry, and as many bytes of properties and of
-- payload: what these bytes are may be any. In a form with a Topic Alias (3.3.2.3.4) the length of the properties may take
-- a byte more, so that the size alone doesn't say which forms are within
pub record AlikeCopies (one other : MessageCopy) : Type 0 where
  pub seen : queued_copy one ≡ queued_copy other
  pub retain : one.retain ≡ other.retain
  pub topic : one.content.topic ≡ other.content.topic
  pub others : other_bytes one ≡ other_bytes other

-- they stand at the same place, in the same phase
pub record AlikeRows (one other : CopyRow) : Type 0 where
  pub place : one.place ≡ other.place
  pub phase : one.phase ≡ other.phase
  pub copy : AlikeCopies one.copy other.copy

abbrev pub with_queue : List CopyRow → Session → Session
with_queue rows s = record s { queue = rows }

-- the same but for the queue, and row by row alike
pub record AlikeSessions (one other : Session) : Type 0 where
  pub rest : with_queue [] one ≡ with_queue [] other
  pub queue : Each AlikeRows one.queue other.queue

abbrev pub with_sessions : List Session → Records → Records
with_sessions ss r = record r { sessions = ss }

-- the same but for the sessions, and these one by one alike
pub record AlikeRecords (one other : Records) : Type 0 where
  pub rest : with_sessions [] one ≡ with_sessions [] other
  pub sessions : Each AlikeSessions one.sessions other.sessions

abbrev pub with_records : Records → Broker → Broker
with_records r b = record b { records = r }

-- the same lines, whose clients were told the same topics, and alike in what is stored
pub record AlikeBrokers (one other : Broker) : Type 0 where
  pub rest : with_records other.records one ≡ other
  pub records : AlikeRecords one.records other.records

-- ---- what they do

-- the same, but for the row in a copy's leaving
pub record AlikeLeaves (one other : Deed) : Type 0 where
  pub who : Whose
  pub ending : Ending
  pub row : CopyRow
  pub other_row : CopyRow
  pub rows : AlikeRows row other_row
  pub first : one ≡ At who (Leave row ending)
  pub second : other ≡ At who (Leave other_row ending)

-- the PUBLISH of one of two alike copies, on the same line, with the same DUP flag and packet identifier, made at the
-- same moment
pub record AlikePublishes (one other : Packet) : Type 0 where
  pub now : ℕ
  pub dup : Bool
  pub id : ℕ
  pub copy : MessageCopy
  pub other_copy : MessageCopy
  pub copies : AlikeCopies copy other_copy
  pub first : one ≡ publish_of now dup id copy
  pub second : other ≡ publish_of now dup id other_copy

pub record AlikeSends (one other : Deed) : Type 0 where
  pub line : ℕ
  pub packet : Packet
  pub other_packet : Packet
  pub publishes : AlikePublishes packet other_packet
  pub first : one ≡ Send line packet
  pub second : other ≡ Send line other_packet

-- `Says`: whether what copies of the queue say may be sent
pub data AlikeDeeds (Says : Type 0) (one other : Deed) : Type 0 where
  same : one ≡ other → AlikeDeeds Says one other
  leaves : AlikeLeaves one other → AlikeDeeds Says one other
  sends : Says → AlikeSends one other → AlikeDeeds Says one other

-- a pump sends what they say, and nothing else does
abbrev pub IsPump : Call → Type 0
IsPump NewLine = ⊥
IsPump (Input line packet) = ⊥
IsPump (BadInput line is_connect code) = ⊥
IsPump (Lost line) = ⊥
IsPump (Pump line) = ⊤
IsPump Tick = ⊥

-- ---- what is answered: a packet on a line

abbrev pub AlikePackets : Type 0 → Packet → Packet → Type 0
AlikePackets Says one other = (one ≡ other) ⊎ (Says × AlikePublishes one other)

abbrev pub AlikeOutputs : Type 0 → ℕ × Packet → ℕ × Packet → Type 0
AlikeOutputs Says one other = (one.0 ≡ other.0) × AlikePackets Says one.1 other.1

-- the PUBLISH of one of two alike copies, in the same form
pub record AlikeForms (one other : Packet) : Type 0 where
  pub form : Form
  pub now : ℕ
  pub dup : Bool
  pub id : ℕ
  pub copy : MessageCopy
  pub other_copy : MessageCopy
  pub copies : AlikeCopies copy other_copy
  pub first : one ≡ Publish (in_form form (published_of now dup id copy))
  pub second : other ≡ Publish (in_form form (published_of now dup id other_copy))

-- as it goes out
abbrev pub AlikeWires : Type 0 → ℕ × Packet → ℕ × Packet → Type 0
AlikeWires Says one other = (one.0 ≡ other.0) × ((one.1 ≡ other.1) ⊎ (Says × AlikeForms one.1 other.1))

-- the same, packet by packet as it is meant and as it goes out alike
pub record AlikeOutcomes (Says : Type 0) (one other : Outcome) : Type 0 where
  pub outputs : Each (AlikeOutputs Says) one.outputs other.outputs
  pub wires : Each (AlikeWires Says) one.wires other.wires
  pub closed : one.closed ≡ other.closed
  pub reports : one.reports ≡ other.reports
  pub taken : one.taken ≡ other.taken
  pub again : one.again ≡ other.again

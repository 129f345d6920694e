-- What goes out again: a PUBLISH has DUP 0 while its copy waits, and DUP 1 while the copy is in flight and none went out on that line (MQTT
-- 5.0, 3.3.1.1, 4.3, 4.4).
use Rattle.std.specs.Prelude.{◌≡◌, ◌≤◌, ⊤, ℕ, Bool, true, false, List, Some, filter_map}
use Rattle.std.specs.List.{AllByRecursion}
use Rattle.mqtt_base.specs.declared.session.CopyId.{CopyId}
use Rattle.mqtt_base.specs.declared.session.Phase.{Phase}
use Rattle.mqtt_base.specs.declared.session.Phase.TheVariants.{Oversize, Released, Sent, Waiting}
use Rattle.mqtt_flow.specs.inbound.Identifiers.{is_among}
use Rattle.mqtt_packet.specs.declared.codec.packet.Packet.{Packet}
use Rattle.mqtt_packet.specs.declared.codec.packet.Packet.TheVariants.{Publish}
use Rattle.mqtt_packet.specs.declared.codec.publish.Delivery.{Delivery}
use Rattle.mqtt_packet.specs.declared.codec.publish.Delivery.TheVariants as delivery
use Rattle.mqtt_records.specs.declared.state.records.Records.{Records}
use Rattle.mqtt_records.specs.declared.state.session.Session.{Session}
use Rattle.mqtt_records.specs.messages.Queue.{CopyRow}
use Rattle.mqtt_rules.specs.step.Deeds.{At, Deed, Mark, On, Went, Whose, output, whose}
use Rattle.mqtt_rules.specs.step.Laws.{IsAmong}
use Rattle.mqtt_rules.specs.step.Packets.{publish_of}
use Rattle.mqtt_rules.specs.step.State.{Broker, Line, line_at, session_at}
use Rattle.mqtt_world_model.specs.model.Laws.{count_of}
use Rattle.mqtt_world_laws.specs.acceptance.Identities.{queued_in}
use Rattle.mqtt_world_laws.specs.acceptance.Steps.{Step}

-- a copy in the queue of the session that is connected on the line of this number
pub record StandsFor (number : ℕ) (b : Broker) : Type 0 where
  pub line : Line
  pub birth : ℕ
  pub session : Session
  pub row : CopyRow
  pub found : line_at number b ≡ Some line
  pub its : line.session ≡ Some birth
  pub stands : session_at birth b.records ≡ Some session
  pub queued : IsAmong row session.queue

-- By its phase: while it waits its PUBLISH has DUP 0. While it is in flight, and none went out on this line, its PUBLISH has DUP 1 and the
-- identifier that it is in flight under. Once its PUBREC was taken it has none
abbrev pub IsDue : Phase → Bool → Bool → ℕ → Type 0
IsDue Waiting went dup id = dup ≡ false
IsDue (Sent i) went dup id = (went ≡ false) × ((dup ≡ true) × (id ≡ i))
IsDue (Released i order) went dup id = ⊥
IsDue (Oversize i order) went dup id = ⊥

-- one that waited is in flight from then on, under the identifier of its PUBLISH
abbrev pub IsMarked : Phase → Whose → ℕ → ℕ → List Deed → Type 0
IsMarked Waiting who place id ds = IsAmong (At who (Mark place (Sent id))) ds
IsMarked (Sent i) who place id ds = ⊤
IsMarked (Released i order) who place id ds = ⊤
IsMarked (Oversize i order) who place id ds = ⊤

-- In a step of these deeds the packet is the PUBLISH of such a copy, and due by its phase. The step marks the copy as in flight, and notes
-- that it went out on the line
pub record IsInTurn (number : ℕ) (packet : Packet) (ds : List Deed) (b : Broker) : Type 0 where
  pub copy : StandsFor number b
  pub dup : Bool
  pub id : ℕ
  pub is : packet ≡ publish_of b.now dup id copy.row.copy
  pub due : IsDue copy.row.phase (is_among copy.row.place copy.line.went) dup id
  pub marked : IsMarked copy.row.phase (whose copy.session) copy.row.place id ds
  pub went : IsAmong (On number (Went copy.row.place)) ds

-- so each PUBLISH of QoS 1 or 2; one of QoS 0 has no DUP
abbrev pub IsRepeatedWith : ℕ → Packet → Delivery → List Deed → Broker → Type 0
IsRepeatedWith number packet delivery.AtMostOnce ds b = ⊤
IsRepeatedWith number packet (delivery.AtLeastOnce dup id) ds b = IsInTurn number packet ds b
IsRepeatedWith number packet (delivery.ExactlyOnce dup id) ds b = IsInTurn number packet ds b

abbrev pub IsRepeated : ℕ → Packet → List Deed → Broker → Type 0
IsRepeated number (Publish p) ds b = IsRepeatedWith number (Publish p) p.delivery ds b
IsRepeated number packet ds b = ⊤

-- each packet that a step sends, by the queues and lines as it finds them
abbrev pub RepeatsByPhase : Step → Type 0
RepeatsByPhase x = AllByRecursion (λ (sent : ℕ × Packet). IsRepeated sent.0 sent.1 x.deeds x.broker) (filter_map output x.deeds)

-- ---- a copy that went out

-- a copy that stands in a queue, and waits in none
pub record WaitsNoMore (copy : CopyId) (r : Records) : Type 0 where
  pub stands : 1 ≤ count_of copy (queued_in r)
  pub gone_out : AllByRecursion (λ (s : Session). AllByRecursion (λ (row : CopyRow). row.copy.id ≡ copy → row.phase ≡ Waiting → ⊥) s.queue) r.sessions

-- each PUBLISH of it that a step sends has DUP 1
abbrev pub SendsAgain : CopyId → Step → Type 0
SendsAgain copy x = AllByRecursion (λ (sent : ℕ × Packet). (z : IsInTurn sent.0 sent.1 x.deeds x.broker) → z.copy.row.copy.id ≡ copy → z.dup ≡ true) (filter_map output x.deeds)

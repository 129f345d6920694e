-- What holds of the broker whoever calls it: copies enter and end once, and what is sent of a copy is its publication's (MQTT 5.0, 3.3.2,
-- 3.3.3, 3.3.4, 4.3, 4.9).
use Rattle.std.specs.Prelude.{◌≡◌, ⊤, ℕ, Bool, List, Some, filter_map}
use Rattle.std.specs.List.{AllByRecursion}
use Rattle.mqtt_packet.specs.declared.codec.packet.Packet.{Packet}
use Rattle.mqtt_packet.specs.declared.codec.packet.Packet.TheVariants.{Publish}
use Rattle.mqtt_packet.specs.declared.codec.publish.Delivery.{Delivery}
use Rattle.mqtt_packet.specs.declared.codec.publish.Delivery.TheVariants as delivery
use Rattle.mqtt_records.specs.declared.messages.message.MessageCopy.{MessageCopy}
use Rattle.mqtt_records.specs.declared.state.session.Session.{Session}
use Rattle.mqtt_records.specs.messages.Queue.{CopyRow}
use Rattle.mqtt_rules.specs.step.Deeds.{output}
use Rattle.mqtt_rules.specs.step.Laws.{FewOpen, IsAmong}
use Rattle.mqtt_rules.specs.step.Packets.{publish_of}
use Rattle.mqtt_rules.specs.step.State.{Broker, Line, line_at, session_at}
use Rattle.mqtt_world_model.specs.model.Run.{Acceptance}
use Rattle.mqtt_world_laws.specs.acceptance.Steps.{Step}
use Rattle.mqtt_world_laws.specs.headline_in_forms.Delivery.{EndsAllOnce, EntersAllOnce}
use Rattle.mqtt_world_laws.specs.headline_in_forms.Reading.{Course}

-- ---- what a copy carries

-- if the copy is of that publication it has its topic and payload
abbrev pub CarriesIts : MessageCopy → Acceptance → Type 0
CarriesIts copy a =
    copy.id.publication ≡ a.number → (copy.content.topic ≡ a.message.topic) × (copy.content.payload ≡ a.message.payload)

-- whichever it is of that was accepted
abbrev pub CarriesItsOwn : List Acceptance → CopyRow → Type 0
CarriesItsOwn accepted row = AllByRecursion (CarriesIts row.copy) accepted

-- each copy that stands in a queue
abbrev pub QueuesCarry : List Acceptance → Broker → Type 0
QueuesCarry accepted b = AllByRecursion (λ (s : Session). AllByRecursion (CarriesItsOwn accepted) s.queue) b.records.sessions

-- ---- what is sent of it

-- The packet is the PUBLISH, at this moment, of a copy in the queue of the session that stands on the line, and the copy carries what
-- its publication does
pub record IsOfItsQueue (accepted : List Acceptance) (b : Broker) (number : ℕ) (packet : Packet) : Type 0 where
  pub line : Line
  pub birth : ℕ
  pub session : Session
  pub row : CopyRow
  pub found : line_at number b ≡ Some line
  pub its : line.session ≡ Some birth
  pub stands : session_at birth b.records ≡ Some session
  pub queued : IsAmong row session.queue
  pub dup : Bool
  pub id : ℕ
  pub is : packet ≡ publish_of b.now dup id row.copy
  pub carries : CarriesItsOwn accepted row

-- so a PUBLISH of QoS 1 or 2; one of QoS 0 is of no queue
abbrev pub IsSentWith : List Acceptance → Broker → ℕ → Packet → Delivery → Type 0
IsSentWith accepted b number packet delivery.AtMostOnce = ⊤
IsSentWith accepted b number packet (delivery.AtLeastOnce dup id) = IsOfItsQueue accepted b number packet
IsSentWith accepted b number packet (delivery.ExactlyOnce dup id) = IsOfItsQueue accepted b number packet

abbrev pub IsSent : List Acceptance → Broker → ℕ → Packet → Type 0
IsSent accepted b number (Publish p) = IsSentWith accepted b number (Publish p) p.delivery
IsSent accepted b number packet = ⊤

-- each packet that a step sends, by the queues as it finds them
abbrev pub SendsOfQueues : List Acceptance → Step → Type 0
SendsOfQueues accepted x = AllByRecursion (λ (sent : ℕ × Packet). IsSent accepted x.broker sent.0 sent.1) (filter_map output x.deeds)

-- ---- together

-- Each publication that was accepted entered exactly the queues of its subscribers, each once; each copy waits or has ended once, for
-- its cause; no session has over 20 identifiers open; and what waits of a copy, and what is sent of it, is its publication's
pub record KeepsAll (c : Course) : Type 0 where
  pub entering : EntersAllOnce c
  pub ending : EndsAllOnce c
  pub few_open : FewOpen c.end.records
  pub waiting : QueuesCarry c.acceptances c.end
  pub sending : AllByRecursion (SendsOfQueues c.acceptances) c.steps

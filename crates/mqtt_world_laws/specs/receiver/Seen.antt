-- What one receiver and its session see of the world: an outbound hop, as `mqtt_flow` has it (MQTT 5.0, 4.3, 4.4).
use Rattle.std.specs.Prelude.{◌≡◌, ℕ, Bool, true, false, cond, List, [], ◌∷◌, filter_map, map, nat_lt, Option}
use Rattle.std.specs.Prelude.{Some, None, option_map, is_some}
use Rattle.mqtt_base.specs.declared.session.CopyId.{CopyId}
use Rattle.mqtt_packet.specs.declared.codec.packet.Packet.{Packet}
use Rattle.mqtt_packet.specs.declared.codec.packet.Packet.TheVariants.{Connack, Publish, Pubrel, Disconnect}
use Rattle.mqtt_packet.specs.declared.codec.publish.Delivery.{Delivery}
use Rattle.mqtt_packet.specs.declared.codec.publish.Delivery.TheVariants as delivery
use Rattle.mqtt_packet.specs.declared.codec.publish.Publish.{Publish as Publication}
use Rattle.mqtt_flow.specs.outbound.OutboundWorld.{Lot, standing, past, renewed, TopicAndPayload, World as Hop}
use Rattle.mqtt_flow.specs.outbound.Receiver.{Answer, Handed, Output, connack, no_connack, publish, pubrel, disconnect}
use Rattle.mqtt_world_model.specs.model.Ends.{Back, answers, asks_for, Entry, Receiver, body_of}
use Rattle.mqtt_world_model.specs.model.Lines.{Down}
use Rattle.mqtt_world_model.specs.model.Seen.{is_linked}
use Rattle.mqtt_records.specs.messages.Queue.{CopyRow}
use Rattle.mqtt_records.specs.declared.messages.message.MessageCopy.{MessageCopy}
use Rattle.mqtt_records.specs.declared.state.session.Session.{Session}
use Rattle.mqtt_rules.specs.step.State.{Line as BrokerLine, Broker, entry_on, line_of, session_named}

-- each copy has a number: its place among all that entered the receiver's sessions, from 0
abbrev pub Numbering : Type 0
Numbering = CopyId → ℕ

abbrev pub number_of : Numbering → Option CopyId → ℕ
number_of number None = 0
number_of number (Some copy) = number copy

-- what it sends about copies; a SUBSCRIBE is none of it
abbrev pub answered : Back → Option Answer
answered (answers a) = Some a
answered (asks_for w) = None

-- what it is told about copies: CONNACK and DISCONNECT, a PUBLISH of QoS 1 or 2, and PUBREL
abbrev pub connack_heard : Bool → ℕ → Output
connack_heard present code = cond (nat_lt 0 code) no_connack (connack present)

abbrev pub publish_heard : Numbering → Option CopyId → Publication → Delivery → Option Output
publish_heard number copy p delivery.AtMostOnce = None
publish_heard number copy p (delivery.AtLeastOnce dup i) =
    Some (publish i (number_of number copy) dup (body_of false p))
publish_heard number copy p (delivery.ExactlyOnce dup i) =
    Some (publish i (number_of number copy) dup (body_of true p))

abbrev pub heard : Numbering → Option CopyId → Packet → Option Output
heard number copy (Connack a) = Some (connack_heard a.session_present a.reason.0)
heard number copy (Publish p) = publish_heard number copy p p.delivery
heard number copy (Pubrel a) = Some (pubrel a.identifier a.reason.0)
heard number copy (Disconnect n) = Some disconnect
heard number copy packet = None

abbrev pub heard_in : Numbering → Down → Option Output
heard_in number d = heard number d.copy d.packet

-- what it has read, with the numbers of the copies
abbrev pub handed_in : Numbering → Entry → Handed
handed_in number e = record { copy = number_of number e.copy; body = e.body }

-- with the copies that entered its sessions so far
abbrev pub seen : Numbering → List Lot → Receiver → Broker → Hop
seen number copies r b = record {
  copies = copies;
  stands = is_some (session_named r.client b.records);
  linked = is_linked r.line.number b;
  link = r.line.link;
  clean = r.line.clean;
  up = filter_map answered r.line.up;
  down = filter_map (heard_in number) r.line.down;
  old = filter_map answered r.line.old;
  kept = r.kept;
  ledger = map (handed_in number) r.ledger;
  reads = map (handed_in number) r.once;
}

-- ---- the copies that stand are those of its session's queue

abbrev pub content_of : MessageCopy → TopicAndPayload
content_of copy = record { topic = copy.content.topic; payload = copy.content.payload }

abbrev pub lot_on : List ℕ → CopyRow → Lot
lot_on went e = standing (entry_on went e) (content_of e.copy)

abbrev pub still_standing : List Lot → List Lot
still_standing [] = []
still_standing (standing e m ∷ lots) = standing e m ∷ still_standing lots
still_standing (past ending e m ∷ lots) = still_standing lots

-- the places of the copies whose PUBLISH went out on the session's line, if it has one
abbrev pub went_in : ℕ → Broker → Option (List ℕ)
went_in birth b = option_map (λ (l : BrokerLine). l.went) (line_of birth b)

-- without a line it is not looked at which PUBLISH went out on it
abbrev pub StandOn : List Lot → List CopyRow → Option (List ℕ) → Type 0
StandOn copies queue None = map renewed (still_standing copies) ≡ map (lot_on []) queue
StandOn copies queue (Some went) = still_standing copies ≡ map (lot_on went) queue

abbrev pub AreQueued : List Lot → Option Session → Broker → Type 0
AreQueued copies None b = still_standing copies ≡ []
AreQueued copies (Some s) b = StandOn copies s.queue (went_in s.birth b)

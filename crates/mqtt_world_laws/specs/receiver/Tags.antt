-- The numbers of a receiver's copies, and the tags of what is under way to it and of what it has read (MQTT 5.0, 4.3).
use Rattle.std.specs.Prelude.{◌≡◌, ℕ, ⊤, List, Option, Some, None, slice_get}
use Rattle.std.specs.List.{AllByRecursion}
use Rattle.mqtt_base.specs.declared.session.CopyId.{CopyId}
use Rattle.mqtt_packet.specs.declared.codec.packet.Packet.{Packet}
use Rattle.mqtt_packet.specs.declared.codec.packet.Packet.TheVariants.{Publish}
use Rattle.mqtt_packet.specs.declared.codec.publish.Delivery.{Delivery}
use Rattle.mqtt_packet.specs.declared.codec.publish.Delivery.TheVariants as delivery
use Rattle.mqtt_flow.specs.outbound.OutboundWorld.{Lot, standing, past}
use Rattle.mqtt_world_model.specs.model.Ends.{Entry, Receiver}
use Rattle.mqtt_world_model.specs.model.Lines.{Down}
use Rattle.mqtt_world_laws.specs.receiver.Seen.{Numbering}

abbrev pub id_of : Lot → CopyId
id_of (standing e m) = e.copy.id
id_of (past ending e m) = e.copy.id

-- of the copies that entered, each has its place as its number
abbrev pub AreNumbered : Numbering → List CopyId → Type 0
AreNumbered number ids = (n : ℕ) (copy : CopyId) → slice_get ids n ≡ Some copy → number copy ≡ n

-- a tag names a copy that entered
abbrev pub Names : Numbering → List CopyId → Option CopyId → Type 0
Names number ids None = ⊥
Names number ids (Some copy) = slice_get ids (number copy) ≡ Some copy

-- a PUBLISH of QoS 1 or 2 has such a tag
abbrev pub IsTaggedBy : Numbering → List CopyId → Option CopyId → Delivery → Type 0
IsTaggedBy number ids copy delivery.AtMostOnce = ⊤
IsTaggedBy number ids copy (delivery.AtLeastOnce dup i) = Names number ids copy
IsTaggedBy number ids copy (delivery.ExactlyOnce dup i) = Names number ids copy

abbrev pub IsTaggedWith : Numbering → List CopyId → Option CopyId → Packet → Type 0
IsTaggedWith number ids copy (Publish p) = IsTaggedBy number ids copy p.delivery
IsTaggedWith number ids copy packet = ⊤

abbrev pub IsTagged : Numbering → List CopyId → Down → Type 0
IsTagged number ids d = IsTaggedWith number ids d.copy d.packet

abbrev pub WasTagged : Numbering → List CopyId → Entry → Type 0
WasTagged number ids e = Names number ids e.copy

pub record AreTagged (number : Numbering) (ids : List CopyId) (r : Receiver) : Type 0 where
  pub down : AllByRecursion (IsTagged number ids) r.line.down
  pub ledger : AllByRecursion (WasTagged number ids) r.ledger
  pub once : AllByRecursion (WasTagged number ids) r.once

-- What a receiver was handed of its copies (MQTT 5.0, 4.3.2, 4.3.3, 4.6).
use Rattle.std.specs.Prelude.{◌≡◌, ℕ, ◌≤◌, ⊤, All, Bool, List, [], filter, map, Option, None, Some, is_some, slice_get, true}
use Rattle.std.specs.List.{AllByRecursion, list_any}
use Rattle.mqtt_base.specs.declared.session.CopyId.{CopyId}
use Rattle.mqtt_base.specs.declared.session.Ending.TheVariants.{Dropped, Expired, Taken}
use Rattle.mqtt_base.specs.declared.session.Qos.TheVariants.{AtLeastOnce, ExactlyOnce}
use Rattle.mqtt_flow.specs.outbound.OutboundWorld.{Lot, TopicAndPayload, past}
use Rattle.mqtt_flow.specs.declared.outbound.entry.Entry.{Entry as FlowEntry}
use Rattle.mqtt_world_laws.specs.receiver.Handing.{IsOf}
use Rattle.mqtt_world_laws.specs.receiver.Seen.{AreQueued, Numbering}
use Rattle.mqtt_world_laws.specs.receiver.Tags.{AreNumbered, id_of}
use Rattle.mqtt_world_model.specs.model.Ends.{Entry, Receiver}
use Rattle.mqtt_world_model.specs.model.Laws.{copies_in, handed_count, is_copy, read_count, released_in, stand_among, standing_in}
use Rattle.mqtt_records.specs.messages.Queue.{CopyRow}
use Rattle.mqtt_records.specs.declared.messages.message.MessageCopy.{MessageCopy}
use Rattle.mqtt_records.specs.declared.state.session.Session.{Session}
use Rattle.mqtt_records.specs.lists.Distinct.{AllDiffer}
use Rattle.mqtt_rules.specs.step.State.{Broker, session_named}

-- There are copies, no two the same, of which those that stand are its session's queue, in its order: each of QoS 2 was handed
-- over at most once, in that order, and exactly once from when the broker took its PUBREC, also when it has ended, but never one
-- that expired or was dropped; one of QoS 1 that was taken was read; and what was read is such a copy, with its topic and payload
pub record WasHandedOver (r : Receiver) (b : Broker) : Type 0 where
  pub copies : List Lot
  pub number : Numbering
  pub numbered : AreNumbered number (map id_of copies)
  pub differ : AllDiffer (map id_of copies)
  pub queued : AreQueued copies (session_named r.client b.records) b
  pub tagged : All (λ (e : Entry). is_some e.copy ≡ true) r.ledger
  pub once : (copy : CopyId) → handed_count copy r ≤ 1
  pub in_order : stand_among (copies_in r.ledger) (map id_of copies) ≡ true
  pub released : All (λ (copy : CopyId). handed_count copy r ≡ 1) (released_in (session_named r.client b.records))
  pub taken : (n : ℕ) (e : FlowEntry) (m : TopicAndPayload) → slice_get copies n ≡ Some (past Taken e m)
      → e.copy.qos ≡ ExactlyOnce → handed_count e.copy.id r ≡ 1
  pub read : (n : ℕ) (e : FlowEntry) (m : TopicAndPayload) → slice_get copies n ≡ Some (past Taken e m)
      → e.copy.qos ≡ AtLeastOnce → 1 ≤ read_count e.copy.id r
  pub expired : (n : ℕ) (e : FlowEntry) (m : TopicAndPayload) → slice_get copies n ≡ Some (past Expired e m)
      → handed_count e.copy.id r ≡ 0
  pub dropped : (n : ℕ) (e : FlowEntry) (m : TopicAndPayload) → slice_get copies n ≡ Some (past Dropped e m)
      → handed_count e.copy.id r ≡ 0
  pub carried : AllByRecursion (IsOf number copies) r.ledger × AllByRecursion (IsOf number copies) r.once

-- ---- in the order of its queue

abbrev pub queued_by : Option Session → List CopyId
queued_by None = []
queued_by (Some s) = standing_in s

abbrev pub is_among : List CopyId → CopyId → Bool
is_among copies copy = list_any (is_copy copy) copies

-- of these copies, those that it was handed stand in its ledger in their order
abbrev pub AreHandedInOrder : List CopyId → Receiver → Type 0
AreHandedInOrder copies r = stand_among (filter (is_among copies) (copies_in r.ledger)) copies ≡ true

-- ---- with its topic and payload

-- what was read of this copy
abbrev pub CarriesCopy : MessageCopy → Entry → Type 0
CarriesCopy copy e =
    e.copy ≡ Some copy.id → (e.body.topic ≡ copy.content.topic) × (e.body.payload ≡ copy.content.payload)

-- what was read of the copies that stand in a session's queue
abbrev pub CarryQueued : Option Session → List Entry → Type 0
CarryQueued None es = ⊤
CarryQueued (Some s) es = AllByRecursion (λ (row : CopyRow). AllByRecursion (CarriesCopy row.copy) es) s.queue

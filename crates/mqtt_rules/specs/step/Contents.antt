-- What a message holds that is stored, as a copy, as a retained message or as a Will (MQTT 5.0, 3.1.2.5, 3.3).
use Rattle.std.specs.Prelude.{ℕ, ◌+◌, ◌≤◌, List, length, Option, Some, None, IsTrue}
use Rattle.std.specs.List.{AllByRecursion}
use Rattle.mqtt_base.specs.Values.{FitsText}
use Rattle.mqtt_base.specs.declared.limits.TheConstants.{PACKET_LIMIT, SUBSCRIPTION_LIMIT}
use Rattle.mqtt_props.specs.declared.place.Place.{Place}
use Rattle.mqtt_props.specs.declared.place.Place.TheVariants as places
use Rattle.mqtt_props.specs.Properties.{Prop, FitsBlock, block}
use Rattle.mqtt_props.specs.Laws.{all_may_stand, is_lawful}
use Rattle.mqtt_packet.specs.declared.codec.packet.Packet.{Packet}
use Rattle.mqtt_packet.specs.codec.Packets.{HasSpelling}
use Rattle.mqtt_topic.specs.names.Names.{IsTopicName}
use Rattle.mqtt_topic.specs.names.Filters.{is_filter}
use Rattle.mqtt_keep.specs.lawful.Lawful.{IsIdentifier}
use Rattle.mqtt_base.specs.declared.limits.TheConstants.{ROW_LIMIT}
use Rattle.mqtt_records.specs.declared.messages.message.MessageCopy.{MessageCopy}
use Rattle.mqtt_records.specs.declared.state.subscription.Subscription.{Subscription}
use Rattle.mqtt_records.specs.messages.Queue.{CopyRow}
use Rattle.mqtt_records.specs.declared.messages.message.Content.{Content}
use Rattle.mqtt_records.specs.declared.messages.message.Will.{Will}
use Rattle.mqtt_records.specs.declared.messages.message.RetainedMessage.{RetainedMessage}
use Rattle.mqtt_records.specs.declared.state.session.Session.{Session}
use Rattle.mqtt_records.specs.declared.state.records.Records.{Records}
use Rattle.mqtt_records.specs.state.Session.{place_of}
use Rattle.mqtt_records.specs.lists.Order.{IsTable}
use Rattle.mqtt_rules.specs.step.Packets.{size_of}
use Rattle.mqtt_rules.specs.step.State.{Line, Broker}
use Rattle.mqtt_rules.specs.step.Step.{Call, Input}

-- ---- what comes in

-- a packet that has a spelling, whose shortest is no longer than a packet may be
pub record IsTaken (packet : Packet) : Type 0 where
  pub spelled : HasSpelling packet
  pub short : size_of packet ≤ PACKET_LIMIT

-- the packet of a call is one
abbrev pub TakesLawful : Call → Type 0
TakesLawful (Input line packet) = IsTaken packet
TakesLawful call = Unit {0}

-- ---- how much of it

-- the most bytes of a message's properties and payload, and the most Subscription Identifiers of a copy
pub record Sizes : Type 0 where
  pub bytes : ℕ
  pub identifiers : ℕ

-- of what came in packets: beside the topic, which may have come with another packet, no more bytes than a packet has, and
-- one Subscription Identifier for each subscription of a session at most
abbrev pub of_packets : Sizes
of_packets = record { bytes = PACKET_LIMIT; identifiers = SUBSCRIPTION_LIMIT }

-- of what a store's row may have (ours)
abbrev pub of_rows : Sizes
of_rows = record { bytes = ROW_LIMIT; identifiers = ROW_LIMIT }

-- what comes in packets is within them, and they are within those of rows
pub record AreSizes (sizes : Sizes) : Type 0 where
  pub bytes : (PACKET_LIMIT ≤ sizes.bytes) × (sizes.bytes ≤ ROW_LIMIT)
  pub identifiers : (SUBSCRIPTION_LIMIT ≤ sizes.identifiers) × (sizes.identifiers ≤ ROW_LIMIT)

-- ---- what is stored

-- a topic name that packets can carry
pub record IsTopic (text : List ℕ) : Type 0 where
  pub name : IsTopicName text
  pub fits : FitsText text

-- a topic name; properties that have a spelling, may stand in this packet and keep their laws; no more bytes
pub record IsContentOf (sizes : Sizes) (place : Place) (topic : List ℕ) (properties : List Prop) (payload : List ℕ) : Type 0 where
  pub named : IsTopic topic
  pub fits : FitsBlock properties
  pub may : IsTrue (all_may_stand place properties)
  pub lawful : IsTrue (is_lawful place properties)
  pub short : length (block properties) + length payload ≤ sizes.bytes

-- of a publication
abbrev pub IsPublishedOf : Sizes → Content → Type 0
IsPublishedOf sizes content = IsContentOf sizes places.Publish content.topic content.properties content.payload

-- of a Will, if there is one
abbrev pub IsWilledOf : Sizes → Option Will → Type 0
IsWilledOf sizes None = Unit {0}
IsWilledOf sizes (Some will) = IsContentOf sizes places.Will will.topic will.properties will.payload

-- Subscription Identifiers
pub record AreIdentifiersOf (sizes : Sizes) (identifiers : List ℕ) : Type 0 where
  pub each : AllByRecursion (λ n. IsIdentifier (Some n)) identifiers
  pub few : length identifiers ≤ sizes.identifiers

-- what is sent of a copy
pub record IsCopiedOf (sizes : Sizes) (copy : MessageCopy) : Type 0 where
  pub content : IsPublishedOf sizes copy.content
  pub identifiers : AreIdentifiersOf sizes copy.identifiers

-- a filter, and a Subscription Identifier if there is one
pub record IsAskedFor (x : Subscription) : Type 0 where
  pub filter : IsTrue (is_filter x.filter)
  pub identifier : IsIdentifier x.identifier

-- a session's Will, its subscriptions and its copies
pub record HasContentsOf (sizes : Sizes) (s : Session) : Type 0 where
  pub will : IsWilledOf sizes s.will
  pub subscriptions : AllByRecursion IsAskedFor s.subscriptions
  pub table : IsTable place_of SUBSCRIPTION_LIMIT s.subscriptions
  pub queue : AllByRecursion (λ (e : CopyRow). IsCopiedOf sizes e.copy) s.queue

-- those of all sessions, and the retained messages
pub record HasLawfulContentsOf (sizes : Sizes) (r : Records) : Type 0 where
  pub sessions : AllByRecursion (HasContentsOf sizes) r.sessions
  pub retained : AllByRecursion (λ (k : RetainedMessage). IsPublishedOf sizes k.content) r.retained

-- each alias of a line stands for a topic name
abbrev pub HasTopics : Line → Type 0
HasTopics l = AllByRecursion (λ e. IsTopic e.1) l.aliases.topics

-- the same of what is stored, and of all lines
pub record AreContentsOf (sizes : Sizes) (b : Broker) : Type 0 where
  pub stored : HasLawfulContentsOf sizes b.records
  pub lines : AllByRecursion HasTopics b.lines

-- ---- as lawful records have them

abbrev pub IsContent : Place → List ℕ → List Prop → List ℕ → Type 0
IsContent = IsContentOf of_rows

abbrev pub IsPublished : Content → Type 0
IsPublished = IsPublishedOf of_rows

abbrev pub IsWilled : Option Will → Type 0
IsWilled = IsWilledOf of_rows

abbrev pub AreIdentifiers : List ℕ → Type 0
AreIdentifiers = AreIdentifiersOf of_rows

abbrev pub IsCopied : MessageCopy → Type 0
IsCopied = IsCopiedOf of_rows

abbrev pub HasContents : Session → Type 0
HasContents = HasContentsOf of_rows

abbrev pub HasLawfulContents : Records → Type 0
HasLawfulContents = HasLawfulContentsOf of_rows

abbrev pub AreContentsLawful : Broker → Type 0
AreContentsLawful = AreContentsOf of_rows

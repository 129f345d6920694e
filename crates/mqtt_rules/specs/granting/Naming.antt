-- What a broker holds whose PUBLISH packets name their topics and have no Topic Alias (MQTT 5.0, 3.3.2.1, 3.3.2.3.4).
use Rattle.std.specs.Prelude.{◌≡◌, ⊤, ℕ, false, List, ◌++◌, Option, Some, None}
use Rattle.std.specs.List.{AllByRecursion}
use Rattle.mqtt_packet.specs.declared.codec.packet.Packet.{Packet}
use Rattle.mqtt_packet.specs.declared.codec.packet.Packet.TheVariants as packets
use Rattle.mqtt_props.specs.Edits.{only, without}
use Rattle.mqtt_props.specs.Laws.{is_named}
use Rattle.mqtt_props.specs.Properties.{Prop}
use Rattle.mqtt_props.specs.declared.table.PropName.TheVariants.{TopicAlias, UserProperty}
use Rattle.mqtt_records.specs.declared.state.records.Records.{Records}
use Rattle.mqtt_records.specs.declared.state.session.Session.{Session}
use Rattle.mqtt_records.specs.messages.Queue.{CopyRow}
use Rattle.mqtt_records.specs.declared.messages.message.Content.{Content}
use Rattle.mqtt_records.specs.declared.messages.message.RetainedMessage.{RetainedMessage}
use Rattle.mqtt_records.specs.declared.messages.message.Will.{Will}
use Rattle.mqtt_rules.specs.step.Deeds.{Deed, Send}
use Rattle.mqtt_rules.specs.step.State.{Broker, Line}
use Rattle.mqtt_topic.specs.names.Names.{IsTopicName}

-- ---- a message

-- none of these properties is a Topic Alias
abbrev pub HasNoAlias : List Prop → Type 0
HasNoAlias ps = AllByRecursion (λ p. is_named TopicAlias p ≡ false) ps

-- a topic name, and no alias
pub record NamesTopic (topic : List ℕ) (ps : List Prop) : Type 0 where
  pub name : IsTopicName topic
  pub unaliased : HasNoAlias ps

abbrev pub IsNamed : Content → Type 0
IsNamed content = NamesTopic content.topic content.properties

-- a Will has a topic name; an alias among its properties would not be passed on
abbrev pub IsNamedWill : Option Will → Type 0
IsNamedWill None = Unit {0}
IsNamedWill (Some will) = IsTopicName will.topic

-- ---- what is stored

-- a session's Will and its copies
pub record HasNamed (s : Session) : Type 0 where
  pub will : IsNamedWill s.will
  pub queue : AllByRecursion (λ (e : CopyRow). IsNamed e.copy.content) s.queue

-- those of all sessions, and the retained messages
pub record StoresNamed (r : Records) : Type 0 where
  pub sessions : AllByRecursion HasNamed r.sessions
  pub retained : AllByRecursion (λ (k : RetainedMessage). IsNamed k.content) r.retained

-- ---- a broker

-- each alias that a client gave stands for a topic name
abbrev pub HasNames : Line → Type 0
HasNames l = AllByRecursion (λ e. IsTopicName e.1) l.aliases.topics

-- so of what is stored, and of all lines
pub record NamesTopics (b : Broker) : Type 0 where
  pub stored : StoresNamed b.records
  pub lines : AllByRecursion HasNames b.lines

-- ---- what is sent

-- User Properties come behind all others (3.3.2.3, ours)
abbrev pub HasUsersLast : List Prop → Type 0
HasUsersLast ps = without UserProperty ps ++ only UserProperty ps ≡ ps

-- so they do in a PUBLISH
abbrev pub EndsWithUsers : Packet → Type 0
EndsWithUsers (packets.Publish p) = HasUsersLast p.properties
EndsWithUsers packet = ⊤

-- and in each that a deed sends
abbrev pub SendsUsersLast : Deed → Type 0
SendsUsersLast (Send n packet) = EndsWithUsers packet
SendsUsersLast d = ⊤

-- What a row of each table that is new in schema 2 says, its range included (4.1).
use Rattle.std.specs.Prelude.{◌≡◌, ◌≢◌, List, ℕ, Some, map}
use Rattle.std.specs.List.{AllByRecursion}
use Rattle.sqlite_value.specs.declared.value.Value.{Value}
use Rattle.sqlite_value.specs.declared.value.Value.TheVariants.{Text, Blob}
use Rattle.sqlite_value.specs.Order.{Row, column}
use Rattle.mqtt_base.specs.Values.{FitsText}
use Rattle.mqtt_base.specs.Service.{qos_number}
use Rattle.mqtt_base.specs.declared.session.Qos.TheVariants.{AtMostOnce}
use Rattle.mqtt_props.specs.Properties.{props}
use Rattle.mqtt_records.specs.declared.messages.message.MessageCopy.{MessageCopy}
use Rattle.mqtt_records.specs.declared.messages.message.RetainedMessage.{RetainedMessage}
use Rattle.mqtt_records.specs.messages.PassedOn.{identified}
use Rattle.mqtt_records.specs.messages.Queue.{CopyRow}
use Rattle.mqtt_records.specs.state.Records.{IsNumber}
use Rattle.mqtt_records.specs.state.Contents.{StoredMessage}
use Rattle.mqtt_store_rows.specs.values.Values.{number, flag, IsCounted, IsIdentifier, IsShort}
use Rattle.mqtt_store_rows.specs.values.Blocks.{SaysPassed}
use Rattle.mqtt_store_rows.specs.values.Rows.{SaysId, SaysPhase}

-- ---- message: pub, topic, props, payload

-- the properties as they are passed on, so without Subscription Identifiers
pub record SaysMessage (m : StoredMessage) (row : Row) : Type 0 where
  pub publication : column row 0 ≡ number m.publication
  pub publication_range : IsCounted m.publication
  pub topic : column row 1 ≡ Text m.topic
  pub topic_range : FitsText m.topic
  pub properties : SaysPassed m.properties (column row 2)
  pub payload : column row 3 ≡ Blob m.payload
  pub short : IsShort (column row 1) (column row 2) (column row 3)

-- ---- queued: birth, place, pub, cause, cause_text, cause_n, pid, phase, rel, qos, retain, idents, arrived

-- Subscription Identifiers as they are sent, without a length in front (3.3.2.3.8)
abbrev pub pairs : List ℕ → List ℕ
pairs ids = props (map identified ids)

-- the bytes are the pairs of these, each in its range
pub record ArePairs (ids bytes : List ℕ) : Type 0 where
  pub spelled : bytes ≡ pairs ids
  pub range : AllByRecursion (λ n. IsIdentifier (Some n)) ids

pub record SaysIdentifiers (ids : List ℕ) (column : Value) : Type 0 where
  pub bytes : List ℕ
  pub holds : column ≡ Blob bytes
  pub are : ArePairs ids bytes

-- what stands in a queue, without its topic, properties and payload; only copies of QoS 1 and 2 do (4.3)
pub record SaysOwn (copy : MessageCopy) (row : Row) : Type 0 where
  pub id : SaysId copy.id row
  pub qos : column row 9 ≡ number (qos_number copy.qos)
  pub qos_range : copy.qos ≢ AtMostOnce
  pub retain : column row 10 ≡ flag copy.retain
  pub identifiers : SaysIdentifiers copy.identifiers (column row 11)
  pub arrived : column row 12 ≡ number copy.content.arrived
  pub arrived_range : IsNumber copy.content.arrived

pub record SaysQueued (x : CopyRow) (row : Row) : Type 0 where
  pub place : column row 1 ≡ number x.place
  pub place_range : IsCounted x.place
  pub phase : SaysPhase x.copy.qos x.phase (column row 6) (column row 7) (column row 8)
  pub own : SaysOwn x.copy row

-- ---- kept: place, topic, sender, pub, qos, arrived

-- a retained message without its properties and payload
pub record SaysKept (kept : RetainedMessage) (row : Row) : Type 0 where
  pub place : column row 0 ≡ number kept.place
  pub place_range : IsCounted kept.place
  pub topic : column row 1 ≡ Text kept.content.topic
  pub sender : column row 2 ≡ Text kept.sender
  pub sender_range : FitsText kept.sender
  pub publication : column row 3 ≡ number kept.publication
  pub publication_range : IsCounted kept.publication
  pub qos : column row 4 ≡ number (qos_number kept.qos)
  pub arrived : column row 5 ≡ number kept.content.arrived
  pub arrived_range : IsNumber kept.content.arrived

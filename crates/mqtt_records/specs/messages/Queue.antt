-- A copy in a session's queue, and how many bytes its PUBLISH has (MQTT 5.0, 2.1, 3.3, 4.6).
use Rattle.std.specs.Prelude.{◌≡◌, ℕ, ◌+◌, ◌<◌, ◌^◌, List, Option, length}
use Rattle.mqtt_base.specs.declared.session.Phase.{Phase}
use Rattle.mqtt_base.specs.declared.session.Qos.{Qos}
use Rattle.mqtt_base.specs.declared.session.Qos.TheVariants.{AtMostOnce, AtLeastOnce, ExactlyOnce}
use Rattle.mqtt_base.specs.Values.{varint}
use Rattle.mqtt_props.specs.Properties.{Prop, FitsBlock, block, props}
use Rattle.mqtt_props.specs.declared.table.PropName.TheVariants.{MessageExpiryInterval}
use Rattle.mqtt_records.specs.declared.messages.message.MessageCopy.{MessageCopy}
use Rattle.mqtt_records.specs.messages.PassedOn.{number_at, sent_after}

-- its place in the queue, how far it has come, and what is sent
pub record CopyRow : Type 0 where
  pub place : ℕ
  pub phase : Phase
  pub copy : MessageCopy

-- bytes of the packet identifier: none at QoS 0 (2.2.1)
abbrev pub identifier_len : Qos → ℕ
identifier_len AtMostOnce = 0
identifier_len AtLeastOnce = 2
identifier_len ExactlyOnce = 2

-- the properties of its PUBLISH when nothing was waited; later the same names and as many bytes
abbrev pub first_sent : MessageCopy → List Prop
first_sent copy = sent_after 0 copy.identifiers copy.content.properties

-- the Remaining Length of its PUBLISH: topic, packet identifier, properties, payload (3.3)
abbrev pub remaining : MessageCopy → ℕ
remaining copy =
    2 + length copy.content.topic + identifier_len copy.qos + length (block (first_sent copy)) + length copy.content.payload

-- its PUBLISH has a spelling: the properties are a block, and the Remaining Length a Variable Byte Integer (2.1.4)
pub record IsSpelled (copy : MessageCopy) : Type 0 where
  pub properties : FitsBlock (first_sent copy)
  pub short : remaining copy < 2 ^ 28

-- bytes of its PUBLISH in the shortest spelling, fixed header included
abbrev pub publish_size : MessageCopy → ℕ
publish_size copy = 1 + length (varint (remaining copy)) + remaining copy

-- bytes of its properties without their length, and of its PUBLISH, which has a spelling
pub record AreSizes (sizes : ℕ × ℕ) (copy : MessageCopy) : Type 0 where
  pub spelled : IsSpelled copy
  pub pairs : sizes.0 ≡ length (props (first_sent copy))
  pub size : sizes.1 ≡ publish_size copy

-- what a row remembers of its copy: bytes of its PUBLISH and of its properties, and its Message Expiry Interval
pub record Knows (all properties : ℕ) (interval : Option ℕ) (copy : MessageCopy) : Type 0 where
  pub spelled : IsSpelled copy
  pub size : all ≡ publish_size copy
  pub pairs : properties ≡ length (props (first_sent copy))
  pub expiry : interval ≡ number_at MessageExpiryInterval copy.content.properties

-- The layout of PUBLISH (MQTT 5.0, 3.3).
use Rattle.std.specs.Prelude.{ℕ, ◌<◌, ◌^◌, Bool, true, false, ◌&&◌, ◌||◌, nat_lt, List, [], ◌++◌, length, Result, Ok, Option, Some, None}
use Rattle.std.specs.Int.{w16}
use Rattle.mqtt_base.specs.declared.fault.ReadFault.{ReadFault}
use Rattle.mqtt_base.specs.declared.session.Qos.{Qos}
use Rattle.mqtt_base.specs.declared.session.Qos.TheVariants as qos
use Rattle.mqtt_base.specs.Values.{blob, two_bytes, FitsText}
use Rattle.mqtt_base.specs.Reading.{◌>>=◌, number_at, text_at}
use Rattle.mqtt_props.specs.declared.place.Place.TheVariants as places
use Rattle.mqtt_props.specs.declared.table.PropName.TheVariants.{TopicAlias}
use Rattle.mqtt_props.specs.Properties.{block}
use Rattle.mqtt_props.specs.Laws.{layout_at, has}
use Rattle.mqtt_packet.specs.declared.parts.fault.Fault.{Fault}
use Rattle.mqtt_packet.specs.declared.codec.head.Head.{Head}
use Rattle.mqtt_packet.specs.declared.codec.head.Head.TheVariants as heads
use Rattle.mqtt_packet.specs.declared.codec.publish.Delivery.{Delivery}
use Rattle.mqtt_packet.specs.declared.codec.publish.Delivery.TheVariants.{AtMostOnce, AtLeastOnce, ExactlyOnce}
use Rattle.mqtt_packet.specs.declared.codec.publish.Publish.{Publish}
use Rattle.mqtt_packet.specs.declared.codec.publish.PublishRef.{PublishRef}
use Rattle.mqtt_packet.specs.parts.Reading.{malformed}
use Rattle.mqtt_packet.specs.parts.Blocks.{Stands, keeps_laws}

-- the first byte of a PUBLISH (3.3.1)
abbrev pub delivery_head : Delivery → Bool → Head
delivery_head AtMostOnce retain = heads.Publish false qos.AtMostOnce retain
delivery_head (AtLeastOnce dup id) retain = heads.Publish dup qos.AtLeastOnce retain
delivery_head (ExactlyOnce dup id) retain = heads.Publish dup qos.ExactlyOnce retain

-- its QoS, its DUP flag and its packet identifier, which QoS 0 has not (3.3.1.1, 3.3.1.2, 3.3.2.2)
abbrev pub delivery_qos : Delivery → Qos
delivery_qos AtMostOnce = qos.AtMostOnce
delivery_qos (AtLeastOnce dup id) = qos.AtLeastOnce
delivery_qos (ExactlyOnce dup id) = qos.ExactlyOnce

abbrev pub delivery_dup : Delivery → Bool
delivery_dup AtMostOnce = false
delivery_dup (AtLeastOnce dup id) = dup
delivery_dup (ExactlyOnce dup id) = dup

abbrev pub delivery_identifier : Delivery → Option ℕ
delivery_identifier AtMostOnce = None
delivery_identifier (AtLeastOnce dup id) = Some id
delivery_identifier (ExactlyOnce dup id) = Some id

-- the packet identifier, if the QoS is above 0 (3.3.2.2)
abbrev pub identifier_field : Delivery → List ℕ
identifier_field AtMostOnce = []
identifier_field (AtLeastOnce dup id) = two_bytes id
identifier_field (ExactlyOnce dup id) = two_bytes id

abbrev pub FitsDelivery : Delivery → Type 0
FitsDelivery AtMostOnce = Unit {0}
FitsDelivery (AtLeastOnce dup id) = id < 2 ^ 16
FitsDelivery (ExactlyOnce dup id) = id < 2 ^ 16

-- its parts have a spelling
abbrev pub FitsPublish : Publish → Type 0
FitsPublish p = FitsDelivery p.delivery × FitsText p.topic × Stands places.Publish p.properties

-- its body: topic, identifier, properties, and the payload to the end (3.3.2, 3.3.3)
abbrev pub publish_body : Publish → List ℕ
publish_body p = blob p.topic ++ (identifier_field p.delivery ++ (block p.properties ++ p.payload))

-- an identifier isn't 0 (2.2.1)
abbrev pub lawful_identifier : Delivery → Bool
lawful_identifier AtMostOnce = true
lawful_identifier (AtLeastOnce dup id) = nat_lt 0 id
lawful_identifier (ExactlyOnce dup id) = nat_lt 0 id

-- its laws: those of its block, its identifier's, and an empty topic has a Topic Alias (3.3.2.1)
abbrev pub lawful_publish : Publish → Bool
lawful_publish p =
    keeps_laws places.Publish p.properties
    && (lawful_identifier p.delivery && (nat_lt 0 (length p.topic) || has TopicAlias p.properties))

-- ---- reading

unfoldable pub delivery_at : Bool → Qos → List ℕ → Result (Delivery × List ℕ) ReadFault
delivery_at dup qos.AtMostOnce bytes = Ok (AtMostOnce, bytes)
delivery_at dup qos.AtLeastOnce bytes = do
  n ← number_at w16 bytes
  Ok (AtLeastOnce dup n.0, n.1)
delivery_at dup qos.ExactlyOnce bytes = do
  n ← number_at w16 bytes
  Ok (ExactlyOnce dup n.0, n.1)

unfoldable pub publish_at : Bool → Qos → Bool → List ℕ → Result Publish Fault
publish_at dup q retain body = do
  topic ← malformed (text_at body)
  delivery ← malformed (delivery_at dup q topic.1)
  ps ← malformed (layout_at places.Publish delivery.1)
  Ok (record { delivery = delivery.0; retain = retain; topic = topic.0; properties = ps.0; payload = ps.1 })

-- what is lent out of a frame
abbrev pub publish_of : PublishRef → Publish
publish_of p = record { delivery = p.delivery; retain = p.retain; topic = p.topic.now; properties = p.properties; payload = p.payload.now }

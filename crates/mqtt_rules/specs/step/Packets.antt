-- What the rules read off packets, and how they write their own (MQTT 5.0, 3.1 to 3.14).
use Rattle.std.specs.Prelude.{ℕ, ◌-◌, ◌/◌, Bool, List, [], length, unwrap_or}
use Rattle.mqtt_base.specs.declared.session.Qos.{Qos}
use Rattle.mqtt_base.specs.declared.session.Qos.TheVariants as qos
use Rattle.mqtt_base.specs.declared.reason.Reason.{Reason}
use Rattle.mqtt_props.specs.declared.table.PropName.{PropName}
use Rattle.mqtt_props.specs.declared.table.PropName.TheVariants.{MessageExpiryInterval}
use Rattle.mqtt_props.specs.Properties.{Prop}
use Rattle.mqtt_packet.specs.declared.codec.publish.Delivery.{Delivery}
use Rattle.mqtt_packet.specs.declared.codec.publish.Delivery.TheVariants as delivery
use Rattle.mqtt_packet.specs.declared.codec.packet.Packet.{Packet}
use Rattle.mqtt_packet.specs.declared.codec.packet.Packet.TheVariants.{Connack, Publish, Puback, Pubrec, Pubrel, Pubcomp, Suback, Unsuback, Disconnect}
use Rattle.mqtt_packet.specs.parts.Bits.{qos_of}
use Rattle.mqtt_packet.specs.codec.Packets.{shortest_of}
use Rattle.mqtt_flow.specs.outbound.Outbound.{is_past}
use Rattle.mqtt_records.specs.messages.PassedOn.{number_at}
use Rattle.mqtt_records.specs.messages.PassedOn.{sent_after}
use Rattle.mqtt_records.specs.declared.messages.message.Content.{Content}
use Rattle.mqtt_records.specs.declared.messages.message.MessageCopy.{MessageCopy}

-- ---- properties

abbrev pub number_or : ℕ → PropName → List Prop → ℕ
number_or absent name ps = unwrap_or (number_at name ps) absent

-- ---- packets that the broker sends

abbrev pub reason : ℕ → Reason
reason code = record { 0 = code }

abbrev pub connack : Bool → ℕ → List Prop → Packet
connack present code ps = Connack (record { session_present = present; reason = reason code; properties = ps })

abbrev pub puback : ℕ → ℕ → Packet
puback id code = Puback (record { identifier = id; reason = reason code; properties = [] })

abbrev pub pubrec : ℕ → ℕ → Packet
pubrec id code = Pubrec (record { identifier = id; reason = reason code; properties = [] })

abbrev pub pubrel : ℕ → ℕ → Packet
pubrel id code = Pubrel (record { identifier = id; reason = reason code; properties = [] })

abbrev pub pubcomp : ℕ → ℕ → Packet
pubcomp id code = Pubcomp (record { identifier = id; reason = reason code; properties = [] })

abbrev pub suback : ℕ → List ℕ → Packet
suback id codes = Suback (record { identifier = id; properties = []; codes = codes })

abbrev pub unsuback : ℕ → List ℕ → Packet
unsuback id codes = Unsuback (record { identifier = id; properties = []; codes = codes })

abbrev pub disconnect : ℕ → Packet
disconnect code = Disconnect (record { reason = reason code; properties = [] })

-- bytes of a packet: those of its shortest spelling (2.1.4)
abbrev pub size_of : Packet → ℕ
size_of packet = length (shortest_of packet)

-- ---- PUBLISH to a client

-- a quality of service by its number; one above 2 isn't (4.3)
abbrev pub quality : ℕ → Qos
quality n = unwrap_or (qos_of n) qos.ExactlyOnce

abbrev pub delivery_by : Qos → Bool → ℕ → Delivery
delivery_by qos.AtMostOnce dup id = delivery.AtMostOnce
delivery_by qos.AtLeastOnce dup id = delivery.AtLeastOnce dup id
delivery_by qos.ExactlyOnce dup id = delivery.ExactlyOnce dup id

-- whole seconds since the publication was accepted
abbrev pub seconds_waited : ℕ → Content → ℕ
seconds_waited now content = (now - content.arrived) / 1000

-- its Message Expiry Interval has passed (3.3.2.3.3)
abbrev pub is_expired : ℕ → Content → Bool
is_expired now content = is_past (number_at MessageExpiryInterval content.properties) (seconds_waited now content)

-- the block of a copy
abbrev pub properties_sent : ℕ → MessageCopy → List Prop
properties_sent now copy = sent_after (seconds_waited now copy.content) copy.identifiers copy.content.properties

-- a copy's PUBLISH at a moment, with its DUP flag and its packet identifier (3.3)
abbrev pub publish_of : ℕ → Bool → ℕ → MessageCopy → Packet
publish_of now dup id copy = Publish (record {
  delivery = delivery_by copy.qos dup id;
  retain = copy.retain;
  topic = copy.content.topic;
  properties = properties_sent now copy;
  payload = copy.content.payload;
})

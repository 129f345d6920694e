-- Why no topic is given that a PUBLISH means, and which queued copies a tick ends (MQTT 5.0, 3.3.2.1, 3.3.2.3.3).
use Rattle.std.specs.Prelude.{◌≡◌, ℕ, Bool, ◌&&◌, ⊤}
use Rattle.mqtt_flow.specs.outbound.Outbound.{is_waiting}
use Rattle.mqtt_records.specs.messages.Queue.{CopyRow}
use Rattle.mqtt_rules.specs.step.Packets.{is_expired, reason}
use Rattle.mqtt_packet.specs.declared.codec.publish.Publish.{Publish}
use Rattle.mqtt_topic.specs.declared.names.fault.TopicFault.{TopicFault}
use Rattle.mqtt_topic.specs.declared.names.fault.TopicFault.TheVariants.{Empty, WildcardInName, WildcardPlace, Share, AliasRange, AliasUnknown, Memory, NotText}
use Rattle.mqtt_topic.specs.names.Aliases.{AliasTable}
use Rattle.mqtt_rules.specs.step.Inbound.{Wrong, meaning, topic_code}
use Rattle.mqtt_broker_looks.specs.declared.decided.topics.Unmeant.{Unmeant}
use Rattle.mqtt_broker_looks.specs.declared.decided.topics.Unmeant.TheVariants as unmeant

-- what a fault of a topic says of its PUBLISH
abbrev pub unmeant_by : TopicFault → Unmeant
unmeant_by Memory = unmeant.Memory
unmeant_by Empty = unmeant.Wrong (reason (topic_code Empty))
unmeant_by WildcardInName = unmeant.Wrong (reason (topic_code WildcardInName))
unmeant_by WildcardPlace = unmeant.Wrong (reason (topic_code WildcardPlace))
unmeant_by Share = unmeant.Wrong (reason (topic_code Share))
unmeant_by AliasRange = unmeant.Wrong (reason (topic_code AliasRange))
unmeant_by AliasUnknown = unmeant.Wrong (reason (topic_code AliasUnknown))
unmeant_by NotText = unmeant.Wrong (reason (topic_code NotText))

-- want of memory says nothing of the packet
abbrev pub RefusesMeaning : Publish → AliasTable → Unmeant → Type 0
RefusesMeaning p table (unmeant.Wrong code) = meaning p table ≡ Wrong code.0
RefusesMeaning p table unmeant.Memory = ⊤

-- a queued copy that waits and has expired
abbrev pub is_lapsed : ℕ → CopyRow → Bool
is_lapsed now row = is_waiting row.phase && is_expired now row.copy.content

-- How a receiver reads what goes out on its line: by the aliases that it was told there (MQTT 5.0, 3.3.2.3.4).
use Rattle.std.specs.Prelude.{Bool, List, [], ◌∷◌, Option, Some, None}
use Rattle.mqtt_base.specs.declared.session.CopyId.{CopyId}
use Rattle.mqtt_packet.specs.declared.codec.packet.Packet.{Packet}
use Rattle.mqtt_packet.specs.declared.codec.packet.Packet.TheVariants as packets
use Rattle.mqtt_packet.specs.declared.codec.publish.Publish.{Publish}
use Rattle.mqtt_topic.specs.names.Aliases.{AliasTable}
use Rattle.mqtt_rules.specs.step.Inbound.{Meaning, Means, Wrong, resolved}
use Rattle.mqtt_rules.specs.telling.Meaning.{after_reading, alias_on}
use Rattle.mqtt_world_model.specs.model.Lines.{Down}
use Rattle.mqtt_world_model.specs.model.Ends.{Receiver, hears}

-- a PUBLISH as its reader has it: its topic is the one that it means; one that means none is passed over
abbrev pub with_topic_of : Publish → Meaning → Option Packet
with_topic_of p (Means topic) = Some (packets.Publish (record p { topic = topic }))
with_topic_of p (Wrong code) = None

-- a packet as its reader has it, by what aliases stand for to it
abbrev pub understood : AliasTable → Packet → Option Packet
understood known (packets.Publish p) = with_topic_of p (resolved known p.topic (alias_on p))
understood known packet = Some packet

-- a receiver does with it what it does with a packet of that meaning
abbrev pub hears_if : Bool → Option CopyId → Option Packet → Receiver → Receiver
hears_if stands copy None r = r
hears_if stands copy (Some packet) r = hears stands copy packet r

-- the first packet under way to it
abbrev pub receiver_reads : Bool → AliasTable → List Down → Receiver → Receiver
receiver_reads stands known [] r = r
receiver_reads stands known (d ∷ rest) r =
    hears_if stands d.copy (understood known d.packet) (record r { line = record r.line { down = rest } })

-- and what aliases stand for to it then
abbrev pub known_after : AliasTable → List Down → AliasTable
known_after known [] = known
known_after known (d ∷ rest) = after_reading known d.packet

-- A PUBLISH that was encoded, which copies that say the same share (MQTT 5.0, 3.3).
use Rattle.std.specs.Prelude.{◌≡◌, ℕ, false, List}
use Rattle.mqtt_packet.specs.codec.Packets.{shortest_of}
use Rattle.mqtt_records.specs.declared.messages.message.MessageCopy.{MessageCopy}
use Rattle.mqtt_rules.specs.step.Packets.{publish_of}
use Rattle.mqtt_broker_queue.specs.declared.publications.copies.Addressee.{Addressee}
use Rattle.mqtt_broker_queue.specs.publications.Copies.{InCommon}

-- the bytes are those of the copy's PUBLISH at that moment
abbrev pub IsEncoded : ℕ → MessageCopy → List ℕ → Type 0
IsEncoded moment copy bytes = bytes ≡ shortest_of (publish_of moment false 0 copy)

-- what a copy has in common with the others of its publication
abbrev pub in_common : MessageCopy → InCommon
in_common copy = record { number = copy.id.publication; content = copy.content }

-- a copy that is sent as that for a session is
abbrev pub said_to : Addressee → MessageCopy → MessageCopy
said_to to copy = record copy { qos = to.qos; retain = to.retain; identifiers = to.identifiers }

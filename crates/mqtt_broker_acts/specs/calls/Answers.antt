-- A receiver's answers: the packet of each, and what the session makes of it (MQTT 5.0, 3.4, 3.5, 3.7, 4.3).
use Rattle.std.specs.Prelude.{ℕ}
use Rattle.mqtt_packet.specs.declared.codec.ack.Ack.{Ack}
use Rattle.mqtt_packet.specs.declared.codec.packet.Packet.{Packet}
use Rattle.mqtt_packet.specs.declared.codec.packet.Packet.TheVariants as packets
use Rattle.mqtt_rules.specs.step.Deeds.{Act}
use Rattle.mqtt_rules.specs.step.State.{Env, Line}
use Rattle.mqtt_broker_queue.specs.queues.Answering.{pubacks, pubcomps, pubrecs}
use Rattle.mqtt_broker_acts.specs.declared.calls.answers.AnswerKind.{AnswerKind}
use Rattle.mqtt_broker_acts.specs.declared.calls.answers.AnswerKind.TheVariants.{Puback, Pubrec, Pubcomp}

-- the packet
abbrev pub packet_of : AnswerKind → Ack → Packet
packet_of Puback a = packets.Puback a
packet_of Pubrec a = packets.Pubrec a
packet_of Pubcomp a = packets.Pubcomp a

-- what the session makes of it
abbrev pub answers : AnswerKind → (birth : ℕ) → Ack → Env → Line → Act
answers Puback birth a = pubacks birth a.identifier a.reason.0
answers Pubrec birth a = pubrecs birth a.identifier a.reason.0
answers Pubcomp birth a = pubcomps birth a.identifier

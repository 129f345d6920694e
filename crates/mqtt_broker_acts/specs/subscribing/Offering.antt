-- Packets that go out if the client takes so many bytes, by the Maximum Packet Size of its line (MQTT 5.0, 3.1.2.11.4).
use Rattle.std.specs.Prelude.{ℕ, cond, nat_le, List, [], ◌∷◌, Option, Some, None, option_map}
use Rattle.mqtt_packet.specs.declared.codec.packet.Packet.{Packet}
use Rattle.mqtt_rules.specs.step.Packets.{size_of}
use Rattle.mqtt_rules.specs.step.State.{Broker, line_at}
use Rattle.mqtt_rules.specs.step.Deeds.{Deed, Send}

-- the client's Maximum Packet Size on a line, if the line stands
abbrev pub largest_on : ℕ → Broker → Option ℕ
largest_on line b = option_map (λ l. l.largest) (line_at line b)

-- a packet goes out on a line whose client takes so many bytes
abbrev pub offer_within : ℕ → Option ℕ → Packet → List Deed
offer_within line None packet = []
offer_within line (Some largest) packet = cond (nat_le (size_of packet) largest) (Send line packet ∷ []) []

-- What the broker answers reaches the ends (MQTT 5.0, 4.2).
use Rattle.std.specs.Prelude.{ℕ, List, [], ◌∷◌, ◌++◌, map, Option, None, Some}
use Rattle.std.specs.List.{AllByRecursion}
use Rattle.mqtt_base.specs.declared.session.CopyId.{CopyId}
use Rattle.mqtt_packet.specs.declared.codec.packet.Packet.{Packet}
use Rattle.mqtt_packet.specs.codec.Packets.{HasSpelling, shortest_of}
use Rattle.mqtt_rules.specs.step.State.{Broker}
use Rattle.mqtt_rules.specs.step.Step.{Outcome, copy_of}
use Rattle.mqtt_rules.specs.telling.Meaning.{after_reading, after_reading_all}
use Rattle.mqtt_world_model.specs.model.Lines.{Line, copy_in, known_by, sent_to}
use Rattle.mqtt_world_model.specs.model.World.{publisher_told, receiver_told}
use Rattle.mqtt_world.specs.clients.Ends.{Ends}

-- each of these packets, with their lines, has a spelling (2.1)
abbrev pub HaveSpellings : List (ℕ × Packet) → Type 0
HaveSpellings packets = AllByRecursion (λ x. HasSpelling x.1) packets

-- each that is meant has one
abbrev pub AreSpelled : Outcome → Type 0
AreSpelled out = HaveSpellings out.outputs

-- packets as they go out, each in its shortest spelling (2.1.4)
abbrev pub spelled : List (ℕ × Packet) → List (ℕ × List ℕ)
spelled packets = map (λ x. (x.0, shortest_of x.1)) packets

-- the copy that a packet identifier stands for on a line
abbrev pub copy_for : ℕ → Broker → Option ℕ → Option CopyId
copy_for number b None = None
copy_for number b (Some identifier) = copy_of number identifier b

-- a packet that was meant is under way to the end of this line, which reads it by the one that came (3.3.2.3.4)
abbrev pub with_read : {U : Type 0} → ℕ → Broker → Packet → Packet → Line U → Line U
with_read number b came meant l = record l {
  down = l.down ++ record { packet = meant; copy = copy_in number b meant } ∷ [];
  known = after_reading l.known came;
}

-- and all of these
abbrev pub with_all_read : {U : Type 0} → ℕ → Broker → List Packet → List Packet → Line U → Line U
with_all_read number b came meant l = record l {
  down = l.down ++ map (λ packet. record { packet = packet; copy = copy_in number b packet }) meant;
  known = after_reading_all l.known came;
}

-- what a step that leaves this broker tells is under way to the end of its line
abbrev pub with_told : {U : Type 0} → Broker → Outcome → Line U → Line U
with_told b out l = record l {
  down = l.down ++ sent_to l.number b out.outputs;
  known = known_by l.number out.wires l.known;
}

-- what a step tells reached all ends, if it left this broker
abbrev pub ends_told : Broker → Outcome → Ends → Ends
ends_told b out e = record {
  publishers = map (publisher_told b out) e.publishers;
  receivers = map (receiver_told b out) e.receivers;
}

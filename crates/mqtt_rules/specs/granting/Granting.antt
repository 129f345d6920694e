-- How many aliases a client takes, as far as a call says it (MQTT 5.0, 3.1.2.11.5).
use Rattle.std.specs.Prelude.{◌≡◌, ℕ, ◌≤◌, ⊤, true, nat_eq}
use Rattle.mqtt_packet.specs.declared.codec.packet.Packet.TheVariants.{Connect}
use Rattle.mqtt_rules.specs.step.Connect.{aliases_of}
use Rattle.mqtt_rules.specs.step.Step.{Call, Input}

-- the call is no CONNECT on the line of a client that would be told more topics by aliases
abbrev pub TakesWithin : ℕ → ℕ → Call → Type 0
TakesWithin n most (Input k (Connect c)) = nat_eq k n ≡ true → aliases_of c ≤ most
TakesWithin n most call = ⊤

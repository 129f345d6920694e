-- Values that are a few bits of a byte (MQTT 5.0, 3.1.2.6, 3.8.3.1).
use Rattle.std.specs.Prelude.{ℕ, zero, suc, Bool, true, false, Option, Some, None}
use Rattle.mqtt_base.specs.declared.session.Qos.{Qos}
use Rattle.mqtt_base.specs.declared.session.Qos.TheVariants as qos

abbrev pub bit : Bool → ℕ
bit true = 1
bit false = 0

-- the quality of service of a number
abbrev pub qos_of : ℕ → Option Qos
qos_of zero = Some qos.AtMostOnce
qos_of (suc zero) = Some qos.AtLeastOnce
qos_of (suc (suc zero)) = Some qos.ExactlyOnce
qos_of (suc (suc (suc n))) = None

-- The quality of service by its number (MQTT 5.0, 4.3).
use Rattle.std.specs.Prelude.{ℕ}
use Rattle.mqtt_base.specs.declared.session.Qos.{Qos}
use Rattle.mqtt_base.specs.declared.session.Qos.TheVariants.{AtMostOnce, AtLeastOnce, ExactlyOnce}

abbrev pub qos_number : Qos → ℕ
qos_number AtMostOnce = 0
qos_number AtLeastOnce = 1
qos_number ExactlyOnce = 2

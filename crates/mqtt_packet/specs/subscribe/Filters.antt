-- Filters one after the other, as an UNSUBSCRIBE has them (MQTT 5.0, 3.10.3).
use Rattle.std.specs.Prelude.{ℕ, List, Result}
use Rattle.mqtt_base.specs.Reading.{text_at}
use Rattle.mqtt_packet.specs.declared.parts.fault.Fault.{Fault}
use Rattle.mqtt_packet.specs.parts.Reading.{malformed}

unfoldable pub filter_at : List ℕ → Result (List ℕ × List ℕ) Fault
filter_at bytes = malformed (text_at bytes)

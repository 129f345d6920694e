-- A broker that is opened (MQTT 5.0, 4.1).
use Rattle.std.specs.Prelude.{Result, Ok, Err}
use Rattle.mqtt_broker.specs.stored.Running.{Running}
use Rattle.mqtt_broker.specs.engine.Serving.{Serving}

-- the engine within, or the refusal
abbrev pub running_in : {K E : Type 0} → Result (Serving K) E → Result (Running K) E
running_in (Ok engine) = Ok engine.running
running_in (Err refusal) = Err refusal

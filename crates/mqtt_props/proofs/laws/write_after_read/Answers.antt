-- A block that is read is the one that is written (MQTT 5.0, 2.2.2).
use Rattle.mqtt_props.proofs.Judged.{lawful_takes}
use Rattle.mqtt_props.proofs.laws.write_after_read.Goals as goal

pub returns : goal.returns
returns c = λ place bytes rest ps each e. (lawful_takes place bytes (ps, rest) each e).0.parts

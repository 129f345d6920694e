-- A written block is read as its list (MQTT 5.0, 2.2.2).
use Rattle.std.proofs.Common.{refl}
use Rattle.mqtt_props.proofs.Judged.{lawful_again}
use Rattle.mqtt_props.proofs.laws.read_after_write.Goals as goal

pub returns : goal.returns
returns c = λ place ps rest fits may lawful. lawful_again place ps rest _ (record { fits = fits; may = may; parts = refl }) lawful

use Rattle.mqtt_world_laws.proofs.knowing_lemmas.Reading.{read}
use Rattle.mqtt_world_laws.proofs.knowing.laws.what_means_a_packet_is_read_as_it.Goals as goal

pub returns : goal.returns
returns c = record { read = read }

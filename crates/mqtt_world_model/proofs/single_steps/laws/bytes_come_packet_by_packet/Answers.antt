-- Packet by packet.
use Rattle.mqtt_world_model.proofs.single_steps_lemmas.Steps.{splits_step}
use Rattle.mqtt_world_model.proofs.single_steps.laws.bytes_come_packet_by_packet.Goals as goal

pub returns : goal.returns
returns c = record { splits = splits_step }

use Rattle.mqtt_world.proofs.scene_lemmas.ReadAsSent.{spells_all}
use Rattle.mqtt_world.proofs.scene.spelled.each_packet_is_read_as_it_was_sent.Goals as goal

pub returns : goal.returns
returns c = spells_all

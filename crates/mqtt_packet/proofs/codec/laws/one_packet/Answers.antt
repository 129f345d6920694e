use Rattle.mqtt_packet.proofs.codec_lemmas.FrameLemmas.{one_packet as one}
use Rattle.mqtt_packet.proofs.codec.laws.one_packet.Goals as goal

pub returns : goal.returns
returns c = λ frame p q s t. one frame p q s.0 t.0

use Rattle.mqtt_packet.specs.stream.Front.{first_of}
use Rattle.mqtt_broker.proofs.engine_lemmas.FirstPackets.{whole_unless}
use Rattle.mqtt_broker.proofs.engine.framing.is_whole.Goals as goal

pub returns : goal.returns
returns c = whole_unless c.is_whole.result (first_of c.args.framer.now.held) c.is_whole.ensures.waits c.is_whole.ensures.whole

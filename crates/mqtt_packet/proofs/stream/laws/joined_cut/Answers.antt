use Rattle.mqtt_packet.proofs.stream_lemmas.Wholes.{joined_stream}
use Rattle.mqtt_packet.proofs.stream.laws.joined_cut.Goals as goal

pub returns : goal.returns
returns c = joined_stream

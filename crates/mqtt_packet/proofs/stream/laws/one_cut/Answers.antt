use Rattle.mqtt_packet.proofs.stream_lemmas.Cuts.{stream_exists, stream_unique}
use Rattle.mqtt_packet.proofs.stream.laws.one_cut.Goals as goal

pub returns-clause-some : goal.returns-clause-some
returns-clause-some c = stream_exists

pub returns-clause-only : goal.returns-clause-only
returns-clause-only c = stream_unique

use Rattle.mqtt_packet.specs.codec.Packets.{shortest_of}
use Rattle.mqtt_packet.proofs.codec_lemmas.FrameLemmas.{one_packet}
use Rattle.mqtt_packet.proofs.codec_lemmas.ShortestLemmas.{shortest_is}
use Rattle.mqtt_packet.proofs.codec.laws.round_trip.Goals as goal

pub returns-clause-spelled : goal.returns-clause-spelled
returns-clause-spelled c = λ p h. let s = shortest_is p h in s.0

pub returns-clause-only : goal.returns-clause-only
returns-clause-only c = λ p q h s. let t = shortest_is p h in one_packet (shortest_of p) q p s.0 t.0.0

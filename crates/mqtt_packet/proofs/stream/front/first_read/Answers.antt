use Rattle.std.proofs.Common.{arith}
use Rattle.mqtt_packet.specs.codec.Frames.{packet_of}
use Rattle.mqtt_packet.proofs.stream_lemmas.Wholes.{found_ends}
use Rattle.mqtt_packet.proofs.stream.front.first_read.Goals as goal

pub returns-clause-payload : goal.returns-clause-payload
returns-clause-payload c = found_ends packet_of c.args.bytes.now c.front_read.result (λ i. omega (arith, c.type_inv.bytes i)) c.front_read.ensures.exact

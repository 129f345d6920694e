use Rattle.std.proofs.Common.{arith}
use Rattle.mqtt_packet.specs.codec.Frames.{packet_of}
use Rattle.mqtt_packet.proofs.codec_lemmas.FrameLemmas.{packet_found, packet_only, packet_refused}
use Rattle.mqtt_packet.proofs.codec.frame.look_at.Goals as goal

pub returns-clause-found : goal.returns-clause-found
returns-clause-found c = packet_found packet_of c.args.frame.now c.packet_read.result (λ i. omega (arith, c.type_inv.frame i)) c.packet_read.ensures

pub returns-clause-only : goal.returns-clause-only
returns-clause-only c = packet_only packet_of c.args.frame.now c.packet_read.result c.packet_read.ensures

pub returns-clause-refused : goal.returns-clause-refused
returns-clause-refused c = packet_refused packet_of c.args.frame.now c.packet_read.result (λ i. omega (arith, c.type_inv.frame i)) c.packet_read.ensures

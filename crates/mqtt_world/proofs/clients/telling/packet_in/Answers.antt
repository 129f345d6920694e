use Rattle.std.proofs.Common.{subst, sym}
use Rattle.mqtt_packet.specs.codec.Packets.{Spells}
use Rattle.mqtt_packet.proofs.codec_lemmas.FrameLemmas.{one_packet}
use Rattle.mqtt_packet.proofs.codec_lemmas.ShortestLemmas.{shortest_is}
use Rattle.mqtt_world.proofs.clients.telling.packet_in.Goals as goal

pub returns-in-Ok : goal.returns-in-Ok
returns-in-Ok c = λ p spelling is.
    let spells : Spells p c.args.bytes.now = subst (Spells p) (sym is) (shortest_is p spelling).0 in
    one_packet c.args.bytes.now c.in-Ok.packet p c.in-Ok.ensures.found.0 spells.0

use Rattle.mqtt_packet.specs.codec.Frames.{packet_of}
use Rattle.mqtt_cli.proofs.viewer_lemmas.Lines.{lines_next}
use Rattle.mqtt_cli.proofs.viewer.viewer.push_packets.Goals as goal

pub packets-preserved : goal.packets-preserved
packets-preserved c =
    let found = rw c.in-Ok-Some.field-0-is at c.in-Ok-Some.ensures.found in
    lines_next c.args.details c.args.framer.now c.packets.framer c.skip.new.self _ _ _ (packet_of c.in-Ok-Some.packet) c.in-Ok-Some.size c.in-Ok-Some.place
    c.packets.invariant found.0 found.1 c.skip.ensures c.in_ok-push_packet-in-Ok-Some.ensures

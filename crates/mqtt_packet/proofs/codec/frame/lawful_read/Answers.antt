-- The packet that was judged by its kind's laws.
use Rattle.std.proofs.Common.{Result, subst}
use Rattle.mqtt_packet.specs.declared.parts.fault.Fault.{Fault}
use Rattle.mqtt_packet.specs.parts.Reading.{Gives}
use Rattle.mqtt_packet.specs.declared.codec.packet.Packet.{Packet}
use Rattle.mqtt_packet.specs.codec.Frames.{packet_of}
use Rattle.mqtt_packet.proofs.codec_lemmas.JudgedLemmas.{lawful_is}
use Rattle.mqtt_packet.proofs.codec.frame.lawful_read.Goals as goal

pub returns : goal.returns
returns c =
    subst (λ (read : Result Packet Fault). Gives packet_of c.judged_read.result read)
    (lawful_is c.args.head c.args.body.now c.in_ok-version_read.field-0 c.in_ok-version_read.ensures)
    c.judged_read.ensures

use Rattle.std.proofs.Common.{ℕ, List}
use Rattle.mqtt_packet.specs.codec.Frames.{packet_of}
use Rattle.mqtt_packet.specs.codec.Packets.{properties_of}
use Rattle.mqtt_cli.specs.viewer.JsonPacket.{json_fields, json_payload}
use Rattle.mqtt_cli.specs.viewer.JsonValues.{json_properties}
use Rattle.mqtt_cli.proofs.viewer_lemmas.Added.{added, on_ok}
use Rattle.mqtt_cli.proofs.viewer.json_packet.push_json_body.Goals as goal

pub returns : goal.returns
returns c =
    let old : List ℕ = c.args.text.now.items in
    let fields : List ℕ = json_fields (packet_of c.args.packet.now) in
    let properties : List ℕ = json_properties (properties_of (packet_of c.args.packet.now)) in
    let payload : List ℕ = json_payload c.args.with_payload (packet_of c.args.packet.now) in
    on_ok c.push_json_payload.result _ _
    (λ last. added old fields properties payload _ _ _ c.in_ok-push_json_fields.ensures c.in_ok-push_json_own_properties.ensures last)
    c.push_json_payload.ensures

use Rattle.std.proofs.Common.{ℕ, List, codes}
use Rattle.mqtt_packet.specs.codec.Frames.{packet_of}
use Rattle.mqtt_cli.specs.viewer.JsonPacket.{json_body, json_start}
use Rattle.mqtt_cli.proofs.viewer_lemmas.Added.{added, on_ok}
use Rattle.mqtt_cli.proofs.viewer.json_packet.push_json_line.Goals as goal

pub returns : goal.returns
returns c =
    let old : List ℕ = c.args.text.now.items in
    let front : List ℕ = json_start c.args.place c.args.size (packet_of c.args.packet.now) in
    let body : List ℕ = json_body c.args.with_payload (packet_of c.args.packet.now) in
    on_ok c.push_json_end.result _ _
    (λ last. added old front body (codes "}\n") _ _ _ c.in_ok-push_json_start.ensures c.in_ok-push_json_body.ensures last)
    c.push_json_end.ensures

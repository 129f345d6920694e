use Rattle.std.proofs.Common.{ℕ, take, ap, ◌∙◌}
use Rattle.std.proofs.lemmas.List.{take_min}
use Rattle.mqtt_cli.proofs.viewer.packet_text.push_head.Goals as goal

pub returns : goal.returns
returns c =
    let payload = c.args.payload.now in
    let shown = ap (λ (n : ℕ). take n payload) c.min.ensures ∙ take_min 16 payload in
    rw c.if-not-with_payload.false (rw shown at c.push_shown.ensures)

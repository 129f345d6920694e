use Rattle.std.proofs.Common.{arith, ◌≤◌, length, eqb, ap, ◌∙◌, List, ℕ}
use Rattle.std.specs.List.{list_any}
use Rattle.mqtt_base.proofs.Texts.{text_holds}
use Rattle.mqtt_base.proofs.text.Text.may_hold.Goals as goal

pub returns-then-text-le65535 : goal.returns-then-text-le65535
returns-then-text-le65535 c =
    let short : length c.args.text.now ≤ 65535 = omega arith in
    text_holds c.args.text.now c.contains.result short c.utf8.text (c.contains.ensures.value ∙ ap (λ (bytes : List ℕ). list_any (λ b. eqb b 0) bytes) c.as_bytes.ensures.value)

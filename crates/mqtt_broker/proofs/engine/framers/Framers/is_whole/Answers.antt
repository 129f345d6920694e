use Rattle.std.proofs.Common.{◌≡◌, rules, ap, sym, ◌∙◌}
use Rattle.std.specs.Prelude.{None}
use Rattle.mqtt_packet.specs.stream.Front.{first_of}
use Rattle.mqtt_records.specs.lists.Order.{row_at}
use Rattle.mqtt_rules.specs.step.Piece.{is_whole}
use Rattle.mqtt_broker.specs.engine.Framers.{framing_of, line_of}
use Rattle.mqtt_broker.proofs.engine_lemmas.HeldBytes.{nothing_whole}
use Rattle.mqtt_broker.proofs.engine.framers.Framers.is_whole.Goals as goal

pub returns-in-None : goal.returns-in-None
returns-in-None c =
    let none : row_at line_of c.args.line c.args.self.now ≡ None = search rules in
    nothing_whole ∙ sym (ap (λ o. is_whole (first_of (framing_of o).held)) none)

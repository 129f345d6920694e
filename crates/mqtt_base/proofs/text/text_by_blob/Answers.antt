use Rattle.std.proofs.Common.{sym, ◌∙◌}
use Rattle.mqtt_base.proofs.Texts.{text_found, text_refused}
use Rattle.mqtt_base.proofs.text.text_by_blob.Goals as goal

pub returns-in-Ok : goal.returns-in-Ok
returns-in-Ok c =
    (c.in_ok-body.ensures.exact.0, text_found _ _ _ _ c.in_ok-body.ensures.exact.1 (sym c.if-contains.false ∙ c.contains.ensures.value) c.in-Ok.ensures.1 c.in-Ok.ensures.0)

pub returns-in-Err : goal.returns-in-Err
returns-in-Err c = text_refused _ _ _ c.in_ok-body.ensures.exact.1 c.in-Err.ensures

use Rattle.std.proofs.Common.{sym, ◌∙◌}
use Rattle.mqtt_serve.proofs.turns_lemmas.Empty.{none_told}
use Rattle.mqtt_serve.proofs.turns.telling.deliver.Goals as goal

pub returns-then-is_silent : goal.returns-then-is_silent
returns-then-is_silent g c =
    let none = c.is_silent.ensures c.if-is_silent.true in
    none_told c.args.out.now.outputs.items c.args.out.now.closed.items c.args.lines.now
    (sym c.deref.ensures.value ∙ none.0) (sym c.deref-2.ensures.value ∙ none.1)

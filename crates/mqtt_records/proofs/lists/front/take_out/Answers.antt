use Rattle.std.proofs.Common.{◌+◌, drop, refl, ap, ◌∙◌}
use Rattle.mqtt_records.proofs.lists_lemmas.FrontLemmas.{drop_remove}
use Rattle.mqtt_records.proofs.lists.front.take_out.Goals as goal

pub returns-clause-rest : goal.returns-clause-rest
returns-clause-rest g c =
    let gone = c.args.gone in
    ap (drop gone) c.remove.ensures.items ∙ drop_remove gone c.args.place (gone + c.args.place) c.args.rows.now.items refl

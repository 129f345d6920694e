use Rattle.std.proofs.Common.{ap, map, ◌∙◌}
use Rattle.mqtt_records.proofs.lists_lemmas.DifferLemmas.{names_differ}
use Rattle.mqtt_records.proofs.lists.distinct.are_named_apart.Goals as goal

pub returns : goal.returns
returns g c =
    let says = c.are_distinct-differ.ensures in
    let same = names_differ c.deref_mut.result.now _ (ap (map (λ name. name.now)) c.deref_mut.ensures.value ∙ c.in_ok-names.ensures) in
    (λ t. same.0 (says.0 t), λ d. says.1 (same.1 d))

use Rattle.std.proofs.Common.{ap, map, ◌∙◌}
use Rattle.mqtt_keep.specs.lawful.CopyKeys.{value_of}
use Rattle.mqtt_keep.proofs.lawful_lemmas.CopyKeyLemmas.{copies_differ}
use Rattle.mqtt_keep.proofs.lawful.queue.are_copies_apart.Goals as goal

pub returns : goal.returns
returns c =
    let says = c.are_distinct-apart.ensures in
    let same = copies_differ (λ row. row.copy.id) c.deref_mut.result.now c.args.queue.now (ap (map value_of) c.deref_mut.ensures.value ∙ c.in_ok-keys.ensures) in
    (λ t. same.0 (says.0 t), λ d. says.1 (same.1 d))

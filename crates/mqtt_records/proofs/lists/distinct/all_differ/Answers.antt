use Rattle.mqtt_records.proofs.lists_lemmas.DifferLemmas.{numbers_differ}
use Rattle.mqtt_records.proofs.lists.distinct.all_differ.Goals as goal

pub returns : goal.returns
returns c =
    let says = c.are_distinct.ensures in
    let same = numbers_differ c.args.numbers.now in
    (λ t. same.0 (says.0 t), λ d. says.1 (same.1 d))

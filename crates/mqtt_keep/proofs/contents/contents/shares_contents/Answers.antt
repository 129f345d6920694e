use Rattle.std.proofs.Common.{ap, map, ◌∙◌}
use Rattle.mqtt_keep.specs.contents.Listed.{said}
use Rattle.mqtt_keep.proofs.contents_lemmas.Listed.{listed_says}
use Rattle.mqtt_keep.proofs.contents.contents.shares_contents.Goals as goal

pub returns : goal.returns
returns c =
    let agree = c.all_agree-shared.ensures in
    let says = listed_says c.args.records.now _ (ap (map said) c.deref_mut.ensures.value ∙ c.in_ok-messages.ensures) in
    (λ t. says.0 (agree.0 t), λ shared. agree.1 (says.1 shared))

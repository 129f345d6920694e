use Rattle.std.proofs.Common.{◌∙◌, ap, sym, slice_set}
use Rattle.std.proofs.lemmas.List.Edits.{map_over_more}
use Rattle.mqtt_world_model.specs.model.World.{unlinked}
use Rattle.mqtt_world_ends.proofs.strangers.strangers.unlink.Goals as goal

pub loop-stranger-preserved : goal.loop-stranger-preserved
loop-stranger-preserved c =
    let l = c.loop-stranger in
    ap (λ x. slice_set l.all l.stranger-index x) (c.unlink.ensures ∙ ap unlinked (sym c.stranger-item.is))
    ∙ map_over_more unlinked c.args.all.now l.all l.stranger-index c.stranger-item.result c.loop-stranger-test.true l.invariant
    c.stranger-item.is

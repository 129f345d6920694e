use Rattle.std.proofs.Common.{◌∙◌, ap, sym, slice_set}
use Rattle.std.proofs.lemmas.List.Edits.{map_over_more}
use Rattle.mqtt_flow.specs.outbound.Outbound.{unsent}
use Rattle.mqtt_flow.proofs.outbound.change.forget_all.Goals as goal

pub loop-entry-preserved : goal.loop-entry-preserved
loop-entry-preserved c =
    ap (λ x. slice_set c.loop-entry.entries c.loop-entry.entry-index (unsent x)) (sym c.entry-item.is)
    ∙ map_over_more unsent c.args.entries.now c.loop-entry.entries c.loop-entry.entry-index c.entry-item.result c.loop-entry-test.true c.loop-entry.invariant c.entry-item.is

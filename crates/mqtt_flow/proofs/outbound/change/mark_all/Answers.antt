use Rattle.std.proofs.Common.{◌∙◌, ap, sym, slice_set}
use Rattle.std.proofs.lemmas.List.Edits.{map_over_more}
use Rattle.mqtt_flow.specs.outbound.Queue.{marked}
use Rattle.mqtt_flow.proofs.outbound.change.mark_all.Goals as goal

pub loop-entry-preserved : goal.loop-entry-preserved
loop-entry-preserved c =
    let made = c.mark.ensures ∙ ap (marked c.args.turn) (sym c.entry-item.is) in
    ap (λ x. slice_set c.loop-entry.entries c.loop-entry.entry-index x) made
    ∙ map_over_more (marked c.args.turn) c.args.entries.now c.loop-entry.entries c.loop-entry.entry-index c.entry-item.result c.loop-entry-test.true c.loop-entry.invariant c.entry-item.is

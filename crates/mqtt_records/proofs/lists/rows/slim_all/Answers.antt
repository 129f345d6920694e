use Rattle.std.proofs.Common.{◌∙◌, ap, sym, slice_set}
use Rattle.std.proofs.lemmas.List.Edits.{map_over_more}
use Rattle.mqtt_records.proofs.lists.rows.slim_all.Goals as goal

pub loop-row-preserved : goal.loop-row-preserved
loop-row-preserved g c =
    let f = g.R.Slimmable.slimmed in
    let made = c.leave_out.ensures ∙ ap f (sym c.row-item.is) in
    ap (λ x. slice_set c.loop-row.rows c.loop-row.row-index x) made
    ∙ map_over_more f c.args.rows.now c.loop-row.rows c.loop-row.row-index c.row-item.result c.loop-row-test.true c.loop-row.invariant c.row-item.is

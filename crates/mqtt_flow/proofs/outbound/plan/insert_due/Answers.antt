-- One row after the other.
use Rattle.std.proofs.Common.{◌+◌, List, map, drop, sym, ap, ◌∙◌}
use Rattle.mqtt_base.specs.declared.Phase.{Phase}
use Rattle.mqtt_flow.specs.declared.outbound.entry.Due.{Due}
use Rattle.mqtt_flow.specs.declared.outbound.entry.Entry.{Entry}
use Rattle.mqtt_flow.specs.outbound.Outbound.{due_from, due_of}
use Rattle.mqtt_flow.proofs.outbound_lemmas.outbound.Rows.{rows_at}
use Rattle.mqtt_flow.proofs.outbound.plan.insert_due.Goals as goal

pub loop-row-preserved : goal.loop-row-preserved
loop-row-preserved g c = λ view.
    let entry = g.V.QueueView.entry view in
    let l = c.loop-row in
    let rest = map entry (drop (l.row-index + 1) c.args.rows.now) in
    let at = rows_at entry c.args.rows.now l.row-index c.row-item.result c.loop-row-test.true c.row-item.is in
    ap (λ (ds : List Due). due_from ds rest) c.in_ok-insert_phase.ensures.ok
    ∙ ap (λ (p : Phase). due_from (due_of p l.dues.items) rest) (c.phase.ensures view)
    ∙ ap (λ (es : List Entry). due_from l.dues.items es) (sym at)
    ∙ l.invariant view

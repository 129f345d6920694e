-- One row after the other.
use Rattle.std.proofs.Common.{◌+◌, ◌++◌, List, Vec, Global, map, drop, sym, ap, ◌∙◌}
use Rattle.mqtt_flow.specs.declared.outbound.entry.Entry.{Entry}
use Rattle.mqtt_flow.specs.declared.outbound.entry.Turn.{Turn}
use Rattle.mqtt_flow.specs.outbound.Outbound.{expired}
use Rattle.mqtt_flow.proofs.outbound_lemmas.outbound.Rows.{rows_at, one_expires, one_waits}
use Rattle.mqtt_flow.proofs.outbound.plan.push_expired.Goals.{then-is_up+in_ok-add, else-is_up}
use Rattle.mqtt_flow.proofs.outbound.plan.push_expired.Goals as goal

pub loop-row-preserved : goal.loop-row-preserved
loop-row-preserved g c = λ view.
    let entry = g.V.QueueView.entry view in
    let l = c.loop-row in
    let now = c.args.now in
    let e = entry c.row-item.result in
    let rest = map entry (drop (l.row-index + 1) c.args.rows.now) in
    let at = rows_at entry c.args.rows.now l.row-index c.row-item.result c.loop-row-test.true c.row-item.is in
    let up = c.is_up.ensures view in
    let before = ap (λ (es : List Entry). l.turns.items ++ expired now es) (sym at) ∙ l.invariant view in
    elim c.if-is_up.branch [
      | then-is_up+in_ok-add w ↦
          one_expires now w.place-place.result e rest l.turns.items c.if-is_up.turns.items (sym up ∙ w.if-is_up.true) (w.place-place.ensures view) (ap (λ (v : Vec Turn Global). v.items) w.turns-is ∙ w.in_ok-add.ensures.turns)
          ∙ before
      | else-is_up w ↦
          ap (λ (v : Vec Turn Global). v.items ++ expired now rest) w.turns-is
          ∙ one_waits now e rest l.turns.items (sym up ∙ w.if-is_up.false)
          ∙ before
    ]

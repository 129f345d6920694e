-- One row after the other.
use Rattle.std.proofs.Common.{◌+◌, ◌++◌, ℕ, List, Vec, Global, map, drop, sym, ap, ◌∙◌}
use Rattle.mqtt_flow.specs.declared.outbound.entry.Entry.{Entry}
use Rattle.mqtt_flow.specs.declared.outbound.entry.Turn.{Turn}
use Rattle.mqtt_flow.specs.outbound.Outbound.{dropped}
use Rattle.mqtt_flow.proofs.outbound_lemmas.outbound.Rows.{rows_at, one_drops, one_stays}
use Rattle.mqtt_flow.proofs.outbound.plan.push_dropped.Goals.{then-gives_way+in_ok-add, else-gives_way}
use Rattle.mqtt_flow.proofs.outbound.plan.push_dropped.Goals as goal

pub loop-row-preserved : goal.loop-row-preserved
loop-row-preserved g c = λ view.
    let entry = g.V.QueueView.entry view in
    let l = c.loop-row in
    let since = c.args.since in
    let e = entry c.row-item.result in
    let rest = map entry (drop (l.row-index + 1) c.args.rows.now) in
    let at = rows_at entry c.args.rows.now l.row-index c.row-item.result c.loop-row-test.true c.row-item.is in
    let way = c.gives_way.ensures view in
    let before = ap (λ (es : List Entry). l.turns.items ++ dropped l.left since es) (sym at) ∙ l.invariant view in
    elim c.if-gives_way.branch [
      | then-gives_way+in_ok-add w ↦
          one_drops l.left c.if-gives_way.left since w.place-place.result e rest l.turns.items c.if-gives_way.turns.items c.if-left-eq0.false (sym way ∙ w.if-gives_way.true) (w.place-place.ensures view) w.left-is (ap (λ (v : Vec Turn Global). v.items) w.turns-is ∙ w.in_ok-add.ensures.turns)
          ∙ before
      | else-gives_way w ↦
          ap (λ (v : Vec Turn Global). v.items ++ dropped c.if-gives_way.left since rest) w.turns-is
          ∙ ap (λ (n : ℕ). l.turns.items ++ dropped n since rest) w.left-is
          ∙ one_stays l.left since e rest l.turns.items c.if-left-eq0.false (sym way ∙ w.if-gives_way.false)
          ∙ before
    ]

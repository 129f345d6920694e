-- One row after the other.
use Rattle.std.proofs.Common.{◌+◌, ◌++◌, List, Vec, Global, length, map, drop, sym, ap, ◌∙◌, arith}
use Rattle.mqtt_flow.specs.declared.outbound.entry.Entry.{Entry}
use Rattle.mqtt_flow.specs.declared.outbound.entry.Turn.{Turn}
use Rattle.mqtt_flow.specs.outbound.Pacing.{Pacing}
use Rattle.mqtt_flow.specs.outbound.Outbound.{pump_from}
use Rattle.mqtt_flow.proofs.outbound_lemmas.outbound.Rows.{rows_at, one_passes, one_turns}
use Rattle.mqtt_flow.proofs.outbound.pump.push_pumped.Goals.{in-GoOn, in-Take+in_ok-take-in-Take}
use Rattle.mqtt_flow.proofs.outbound.pump.push_pumped.Goals as goal

pub loop-row-preserved : goal.loop-row-preserved
loop-row-preserved g c =
    let entry = g.V.QueueView.entry c.args.view.now in
    let l = c.loop-row in
    let m = c.match-branch-2 in
    let way = c.args.way in
    let e = entry c.row-item.result in
    let step = c.in_ok-step_at.field-0 in
    let rest = map entry (drop (l.row-index + 1) c.args.rows.now) in
    let at = rows_at entry c.args.rows.now l.row-index c.row-item.result c.loop-row-test.true c.row-item.is in
    let is = c.in_ok-step_at.ensures.step in
    let before = ap (λ (es : List Entry). l.turns.items ++ pump_from way es l.pace) (sym at) ∙ l.invariant.sent in
    record {
      sent = elim m.branch [
        | in-GoOn w ↦
            ap (λ (v : Vec Turn Global). v.items ++ pump_from way rest m.pace) w.turns-is
            ∙ ap (λ (p : Pacing). l.turns.items ++ pump_from way rest p) w.pace-is
            ∙ ap (λ (ts : List Turn). l.turns.items ++ ts) (one_passes way e rest l.pace step is w.in-GoOn.is)
            ∙ before
        | in-Take+in_ok-take-in-Take w ↦
            one_turns way e rest l.pace m.pace step w.in-Take.turn w.phase.result l.turns.items m.turns.items is w.in-Take.is (w.phase.ensures c.args.view.now) (w.pace-is ∙ w.in_ok-take-in-Take.ensures.pace) (ap (λ (v : Vec Turn Global). v.items) w.turns-is ∙ w.in_ok-take-in-Take.ensures.turns)
            ∙ before
      ];
      used = elim m.branch [
        | in-GoOn w ↦ let same = ap (λ (p : Pacing). length p.used) w.pace-is in let within = l.invariant.used in omega arith
        | in-Take+in_ok-take-in-Take w ↦ let same = ap (λ (p : Pacing). length p.used) w.pace-is in let one = w.in_ok-take-in-Take.ensures.used in let within = l.invariant.used in omega arith
      ];
      order = elim m.branch [
        | in-GoOn w ↦ let same = ap (λ (p : Pacing). p.order) w.pace-is in let within = l.invariant.order in omega arith
        | in-Take+in_ok-take-in-Take w ↦ let same = ap (λ (p : Pacing). p.order) w.pace-is in let one = w.in_ok-take-in-Take.ensures.order in let within = l.invariant.order in omega arith
      ];
    }

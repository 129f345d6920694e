-- One row after the other.
use Rattle.std.proofs.Common.{◌+◌, ◌++◌, Option, ℕ, List, map, drop, sym, ap, ◌∙◌}
use Rattle.mqtt_base.specs.Phases.{identifier_of}
use Rattle.mqtt_flow.specs.declared.outbound.entry.Entry.{Entry}
use Rattle.mqtt_flow.specs.outbound.Queue.{also, identifiers}
use Rattle.mqtt_flow.proofs.outbound_lemmas.outbound.Rows.{rows_at}
use Rattle.mqtt_flow.proofs.outbound.in_use.push_identifiers.Goals as goal

pub loop-row-preserved : goal.loop-row-preserved
loop-row-preserved g c = λ view.
    let entry = g.V.QueueView.entry view in
    let l = c.loop-row in
    let rest = identifiers (map entry (drop (l.row-index + 1) c.args.rows.now)) in
    let at = rows_at entry c.args.rows.now l.row-index c.row-item.result c.loop-row-test.true c.row-item.is in
    c.in_ok-push_identifier.ensures.exact rest
    ∙ ap (λ (o : Option ℕ). l.used.items ++ also o rest) (c.identifier.ensures ∙ ap identifier_of (c.phase.ensures view))
    ∙ ap (λ (es : List Entry). l.used.items ++ identifiers es) (sym at)
    ∙ l.invariant view

-- Rows that stand still are passed over.
use Rattle.std.proofs.Common.{◌-◌, ◌≤◌, ◌++◌, ◌∙◌, List, map, take, drop, length, ap, arith}
use Rattle.std.proofs.lemmas.List.{length-map}
use Rattle.mqtt_flow.specs.declared.outbound.entry.Turn.{Turn}
use Rattle.mqtt_flow.specs.outbound.Pacing.{Pacing}
use Rattle.mqtt_flow.specs.outbound.Outbound.{pump_from}
use Rattle.mqtt_flow.proofs.outbound_lemmas.outbound.Queues.{length-identifiers}
use Rattle.mqtt_flow.proofs.outbound_lemmas.outbound.Stillness.{pump_none, pump_behind, rows_behind, take_within, drop_within}
use Rattle.mqtt_flow.proofs.outbound.known.pump_known.Goals as goal

pub returns-then-rows-known-clause-turns : goal.returns-then-rows-known-clause-turns
returns-then-rows-known-clause-turns g c =
    let entry = g.V.QueueView.entry c.args.view.now in
    let queue = map entry c.args.rows.now in
    let known = c.args.known in
    let long = length-map c.args.rows.now entry in
    let all : length queue ≤ known.still = omega arith in
    let none = pump_none c.args.way known.still known.window known.order queue c.requires.known all in
    let empty = c.new-turns.ensures.items in
    cc

pub push_pumped-requires-clause-few : goal.push_pumped-requires-clause-few
push_pumped-requires-clause-few g c =
    let entry = g.V.QueueView.entry c.args.view.now in
    let still = c.args.known.still in
    let used = ap (λ (p : Pacing). length p.used) (c.in_ok-pace.ensures.exact c.args.view.now) in
    let few = length-identifiers (map entry c.args.rows.now) in
    let long = length-map c.args.rows.now entry in
    let rest = take_within (length c.args.rows.now - still) (drop still c.args.rows.now) in
    let behind = drop_within still c.args.rows.now in
    omega arith

pub returns-clause-turns : goal.returns-clause-turns
returns-clause-turns g c =
    let entry = g.V.QueueView.entry c.args.view.now in
    let known = c.args.known in
    let rows = c.args.rows.now in
    let rest = map entry (take (length rows - known.still) (drop known.still rows)) in
    c.in_ok-push_pumped.ensures.turns
    ∙ ap (λ (ts : List Turn). ts ++ pump_from c.args.way rest c.in_ok-pace.pace) c.new-turns.ensures.items
    ∙ pump_behind c.args.way (map entry rows) rest known.still known.window known.order c.in_ok-pace.pace c.requires.known (rows_behind entry known.still rows) (c.in_ok-pace.ensures.exact c.args.view.now)

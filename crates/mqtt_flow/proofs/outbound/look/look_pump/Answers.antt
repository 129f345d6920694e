-- Few identifiers are in use.
use Rattle.std.proofs.Common.{map, length, ap, arith}
use Rattle.std.proofs.lemmas.List.{length-map}
use Rattle.mqtt_flow.specs.outbound.Pacing.{Pacing}
use Rattle.mqtt_flow.proofs.outbound_lemmas.outbound.Queues.{length-identifiers}
use Rattle.mqtt_flow.proofs.outbound.look.look_pump.Goals as goal

pub push_pumped-requires-clause-few : goal.push_pumped-requires-clause-few
push_pumped-requires-clause-few g c =
    let entry = g.V.QueueView.entry c.args.view.now in
    let used = ap (λ (p : Pacing). length p.used) (c.in_ok-pace.ensures.exact c.args.view.now) in
    let few = length-identifiers (map entry c.args.rows.now) in
    let long = length-map c.args.rows.now entry in
    omega arith

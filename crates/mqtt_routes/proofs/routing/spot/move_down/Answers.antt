use Rattle.std.proofs.Common.{◌<◌, length, get_or, set, ap, ◌∙◌, arith}
use Rattle.mqtt_routes.specs.declared.routing.spot.Spot.{Spot}
use Rattle.mqtt_routes.specs.routing.Spots.{moved_down}
use Rattle.mqtt_routes.proofs.routing_lemmas.MoveLemmas.{moved_next}
use Rattle.mqtt_routes.proofs.routing.spot.move_down.Goals as goal

pub loop-i-preserved : goal.loop-i-preserved
loop-i-preserved c =
    let f = moved_down c.args.birth c.args.at in
    let old = c.args.spots.now.items in
    let i = c.loop-i.i in
    let d = c.index.result.now in
    let within : i < length old = omega (arith, c.loop-i-test.true, c.len-i-end.ensures, c.args.spots.now.ok.0) in
    ap (λ (r : Spot). set c.loop-i.spots.items i r) (c.moved_down.ensures ∙ ap f c.index.ensures)
    ∙ ap (λ ys. set ys i (f (get_or ys i d))) c.loop-i.invariant
    ∙ moved_next f old i d within

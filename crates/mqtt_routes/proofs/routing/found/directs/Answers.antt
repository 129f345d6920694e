-- One subscription after the other.
use Rattle.std.proofs.Common.{◌≡◌, [], cond, sym, ap, ◌∙◌}
use Rattle.std.proofs.lemmas.List.{drop_all}
use Rattle.mqtt_routes.specs.routing.Found.{is_direct, with_direct}
use Rattle.mqtt_routes.proofs.routing_lemmas.DirectLemmas.{with_found, found_next, directs_found}
use Rattle.mqtt_routes.proofs.routing.found.directs.Goals.{then-is_direct+in_ok-add_direct, else-is_direct}
use Rattle.mqtt_routes.proofs.routing.found.directs.Goals as goal

pub returns-clause-copies : goal.returns-clause-copies
returns-clause-copies g c = λ sessions o e.
    let at = g.S.Sessions.answers c.args.at.now in
    let p = c.args.publication.now in
    sym (ap (with_found at p c.loop-one.copies.items) (drop_all c.loop-one.one-index c.args.found.now c.loop-one-test.false)) ∙ c.loop-one.invariant ∙ ap (with_found at p []) e ∙ directs_found at p sessions o

pub loop-one-preserved : goal.loop-one-preserved
loop-one-preserved g c =
    let at = g.S.Sessions.answers c.args.at.now in
    let p = c.args.publication.now in
    let before = c.loop-one.copies.items in
    let f = c.one-item.result in
    let made : c.if-is_direct.copies.items ≡ cond (is_direct at p f) (with_direct p before f) before = elim c.if-is_direct.branch [
      | then-is_direct+in_ok-add_direct w ↦
          ap (λ v. v.items) w.copies-is ∙ w.in_ok-add_direct.ensures.ok ∙ ap (λ t. cond t (with_direct p before f) before) (sym (sym c.is_direct.ensures ∙ w.if-is_direct.true))
      | else-is_direct w ↦ ap (λ v. v.items) w.copies-is ∙ ap (λ t. cond t (with_direct p before f) before) (sym (sym c.is_direct.ensures ∙ w.if-is_direct.false))
    ] in
    found_next at p c.args.found.now c.loop-one.one-index f before c.if-is_direct.copies.items (with_found at p [] c.args.found.now) c.loop-one-test.true c.one-item.is made c.loop-one.invariant

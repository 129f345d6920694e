use Rattle.std.proofs.Common.{◌≡◌, ◌+◌, List, false, take, sym, ◌∙◌, ap, subst, arith}
use Rattle.std.proofs.lemmas.Result.{err_from_is_err_and}
use Rattle.mqtt_routes.specs.routing.Intended.{Member, has_filter_among}
use Rattle.mqtt_routes.specs.routing.Acceptance.{Served, IsServed, RefusesOne}
use Rattle.mqtt_routes.proofs.routing_lemmas.ServeLemmas.{SoFar, so_far_known, so_far_new, so_far_end, refused_one}
use Rattle.mqtt_routes.proofs.routing.serve.serve.Goals as goal
use Rattle.mqtt_routes.proofs.routing.serve.serve.Goals.{then-not-has_filter_among+in_ok-one+in_ok-push, else-not-has_filter_among}

pub returns-clause-served : goal.returns-clause-served
returns-clause-served g c =
    so_far_end (g.S.Sessions.answers c.args.at.now) c.args.publication.now c.args.members.now c.args.direct.now c.loop-i.i c.loop-i.served.items (omega (arith, c.loop-i-test.false)) c.loop-i.invariant

pub returns-in_err-one-clause-refused : goal.returns-in_err-one-clause-refused
returns-in_err-one-clause-refused g c =
    let at = g.S.Sessions.answers c.args.at.now in
    let p = c.args.publication.now in
    let ms = c.args.members.now in
    let direct = c.args.direct.now in
    let served = c.loop-i.served.items in
    let m = c.index-members-i.result in
    let text : c.text-filter.result.now ≡ m.sub.filter = c.text-filter.ensures.value ∙ ap (λ s. s.filter) c.row.view_is ∙ ap (λ (x : Member). x.sub.filter) c.member.view_is in
    let new : has_filter_among m.sub.filter (take c.loop-i.i ms) ≡ false = ap (λ t. has_filter_among t (take c.loop-i.i ms)) (sym (c.as_str.ensures.value ∙ text)) ∙ sym c.has_filter_among.ensures ∙ c.if-not-has_filter_among.true in
    let one : RefusesOne at p direct served m.sub.filter ms c.in_err-one.field-0.0
    = subst (λ t. RefusesOne at p direct served t ms c.in_err-one.field-0.0) text (subst (λ before. RefusesOne at p direct before c.text-filter.result.now ms c.in_err-one.field-0.0) c.as_slice.ensures.value c.in_err-one.ensures.refused)
    in
    let q = err_from_is_err_and c.from_residual.result c.from_residual.ensures.1 in
    rw (q.1, q.2) (refused_one at p ms direct c.loop-i.i served m c.in_err-one.field-0.0 c.loop-i-test.true c.index-members-i.is new c.loop-i.invariant one)

pub loop-i-preserved : goal.loop-i-preserved
loop-i-preserved g c =
    let at = g.S.Sessions.answers c.args.at.now in
    let p = c.args.publication.now in
    let ms = c.args.members.now in
    let direct = c.args.direct.now in
    let served = c.loop-i.served.items in
    let i = c.loop-i.i in
    let m = c.index-members-i.result in
    let text : c.text-filter.result.now ≡ m.sub.filter = c.text-filter.ensures.value ∙ ap (λ s. s.filter) c.row.view_is ∙ ap (λ (x : Member). x.sub.filter) c.member.view_is in
    let test = ap (λ t. has_filter_among t (take i ms)) (sym (c.as_str.ensures.value ∙ text)) ∙ sym c.has_filter_among.ensures in
    elim c.if-not-has_filter_among.branch [
      | then-not-has_filter_among+in_ok-one+in_ok-push w ↦
          let one : IsServed at p direct served m.sub.filter ms w.in_ok-one.one
          = subst (λ t. IsServed at p direct served t ms w.in_ok-one.one) text (subst (λ before. IsServed at p direct before c.text-filter.result.now ms w.in_ok-one.one) w.as_slice.ensures.value w.in_ok-one.ensures.served)
          in
          subst (λ (ss : List Served). SoFar at p ms direct (i + 1) ss) (sym (ap (λ (v : _). v.items) w.served-is ∙ w.in_ok-push.ensures.items))
          (so_far_new at p ms direct i served m w.in_ok-one.one c.loop-i-test.true c.index-members-i.is (test ∙ w.if-not-has_filter_among.true) c.loop-i.invariant one)
      | else-not-has_filter_among w ↦
          subst (λ (ss : List Served). SoFar at p ms direct (i + 1) ss) (sym (ap (λ (v : _). v.items) w.served-is))
          (so_far_known at p ms direct i served m c.loop-i-test.true c.index-members-i.is (test ∙ w.if-not-has_filter_among.false) c.loop-i.invariant)
    ]

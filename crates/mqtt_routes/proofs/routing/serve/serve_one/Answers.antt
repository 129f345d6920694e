use Rattle.std.proofs.Common.{◌≡◌, ◌∙◌, ap, sym, subst, Some}
use Rattle.std.proofs.lemmas.Result.{err_from_is_err_and}
use Rattle.mqtt_routes.specs.routing.Intended.{Copy}
use Rattle.mqtt_routes.specs.routing.Acceptance.{Served, served_by, shared_copy, IsCandidateAt, IsServed}
use Rattle.mqtt_routes.proofs.routing_lemmas.ServeLemmas.{serve_one-candidate, if_ok_more}
use Rattle.mqtt_routes.proofs.routing.serve.serve_one.Goals as goal

pub returns-in_err-copy-clause-refused : goal.returns-in_err-copy-clause-refused
returns-in_err-copy-clause-refused g c =
    let p = err_from_is_err_and c.from_residual.result c.from_residual.ensures.1 in
    rw (p.1, p.2, c.in_err-copy.ensures.fault) tt

pub returns-clause-served : goal.returns-clause-served
returns-clause-served g c =
    let at = g.S.Sessions.answers c.args.at.now in
    let p = c.args.publication.now in
    let direct = c.args.direct.now in
    let before = c.args.before.now in
    let whole = c.args.whole.now in
    let members = c.args.members.now in
    let member = c.index-members-i.result in
    let some = subst (λ t. IsCandidateAt at p direct before t members c.in-Some.i) c.as_str-filter.ensures.value c.in-Some.ensures.some in
    let found = serve_one-candidate at p direct before whole members c.in-Some.i member some in
    let same = sym (c.in_ok-copy.ensures.copy ∙ ap (shared_copy p) c.index-members-i.is) in
    if_ok_more (λ (one : Served). one ≡ served_by whole (Some c.in_ok-copy.copy)) (IsServed at p direct before whole members) c.served-2.result
    (λ one is. (found.0, found.1 ∙ ap (λ (x : Copy). Some (served_by whole (Some x))) same ∙ ap Some (sym is)))
    c.served-2.ensures.served

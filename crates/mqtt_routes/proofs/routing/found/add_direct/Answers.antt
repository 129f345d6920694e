use Rattle.std.proofs.Common.{◌≡◌, ◌-◌, ◌<◌, ◌++◌, ◌∷◌, [], suc, false, true, length, get_or, set, nat_eq, refl, sym, ap, ◌∙◌, ⊎_elim, arith}
use Rattle.std.proofs.lemmas.Bool.{cases_lt}
use Rattle.std.proofs.lemmas.Result.{on_ok_weaker}
use Rattle.std.specs.Vec.{vec_len}
use Rattle.mqtt_routes.specs.routing.Intended.{Copy, add_to, empty_copy}
use Rattle.mqtt_routes.specs.routing.Found.{Found, with_direct}
use Rattle.mqtt_routes.proofs.routing_lemmas.SpotLemmas.{eq-yes}
use Rattle.mqtt_routes.proofs.routing_lemmas.DirectLemmas.{eq-not, fresh, direct_last, direct_further, direct_first}
use Rattle.mqtt_routes.proofs.routing.found.add_direct.Goals as goal
use Rattle.mqtt_routes.proofs.routing.found.add_direct.Goals.{in-Some+else-birth-found, in_default}

pub returns-then-birth-found-clause-ok : goal.returns-then-birth-found-clause-ok
returns-then-birth-found-clause-ok c =
    let p = c.args.publication.now in
    let cs = c.args.copies.now.items in
    let k = vec_len c.args.copies.now - 1 in
    let f = c.args.found.now in
    let last = c.in-Some.last.now in
    let some : 0 < vec_len c.args.copies.now = c.in-Some.ensures.variant.0 refl in
    let long : suc k ≡ length cs = omega (arith, c.args.copies.now.ok.0, some) in
    let same : nat_eq (get_or cs k last).birth f.birth ≡ true =
    eq-yes (get_or cs k last).birth f.birth (ap (λ (x : Copy). x.birth) (sym c.in-Some.ensures.value) ∙ sym c.birth.ensures ∙ c.if-birth-found.true ∙ ap (λ (x : Found). x.birth) c.found.view_is) in
    on_ok_weaker c.add.result
    (λ e. ap (set cs k) (e ∙ ap (add_to p last) (c.row.view_is ∙ ap (λ (x : Found). x.sub) c.found.view_is) ∙ ap (λ (x : Copy). add_to p x f.sub) c.in-Some.ensures.value)
    ∙ direct_last p cs k last f long same)
    c.add.ensures.ok

pub returns-clause-ok : goal.returns-clause-ok
returns-clause-ok c =
    let p = c.args.publication.now in
    let cs = c.args.copies.now.items in
    let f = c.args.found.now in
    let sub = c.row.view_is ∙ ap (λ (x : Found). x.sub) c.found.view_is in
    let made : c.add-2.new.self ≡ fresh p f =
    c.in_ok-add.ensures.ok ∙ ap (λ (x : Copy). add_to p x c.row.inside.subscription) (c.new-copy.ensures ∙ ap (λ (x : Found). empty_copy x.birth) c.found.view_is) ∙ ap (add_to p (empty_copy f.birth)) sub in
    let rest : c.match-last_mut.copies.items ++ fresh p f ∷ [] ≡ with_direct p cs f = elim c.match-last_mut.branch [
      | in-Some+else-birth-found w ↦
          let k = vec_len c.args.copies.now - 1 in
          let last = w.in-Some.last.now in
          let some : 0 < vec_len c.args.copies.now = w.in-Some.ensures.variant.0 refl in
          let long : suc k ≡ length cs = omega (arith, c.args.copies.now.ok.0, some) in
          let other : nat_eq (get_or cs k last).birth f.birth ≡ false =
          eq-not (get_or cs k last).birth f.birth (λ e. w.if-birth-found.false (w.birth.ensures ∙ ap (λ (x : Copy). x.birth) w.in-Some.ensures.value ∙ e ∙ sym (ap (λ (x : Found). x.birth) c.found.view_is))) in
          ap (λ v. v.items ++ fresh p f ∷ []) w.copies-is ∙ ap (λ (x : Copy). set cs k x ++ fresh p f ∷ []) w.in-Some.ensures.value ∙ direct_further p cs k last f long other
      | in_default w ↦
          let none : length cs ≡ 0 = ⊎_elim (λ l. let h = w.in_default.ensures.variant.1 l in cc) (λ le. omega (arith, c.args.copies.now.ok.0, le)) (cases_lt 0 (vec_len c.args.copies.now)) in
          ap (λ v. v.items ++ fresh p f ∷ []) w.copies-is ∙ direct_first p cs f none
    ] in
    c.in_ok-push.ensures.items ∙ ap (λ (x : Copy). c.match-last_mut.copies.items ++ x ∷ []) made ∙ rest

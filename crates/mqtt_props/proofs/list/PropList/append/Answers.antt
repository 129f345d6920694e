-- The pairs of both lists (MQTT 5.0, 2.2.2).
use Rattle.std.proofs.Common.{◌≡◌, ◌+◌, ℕ, List, ◌++◌, length, refl, ap, subst, ◌∙◌, arith}
use Rattle.std.proofs.lemmas.Result.{err_from_is_err_and}
use Rattle.mqtt_props.specs.Edits.{IsTooLong}
use Rattle.mqtt_props.proofs.Blocks.{pairs_of, pairs_fit}
use Rattle.mqtt_props.proofs.EditLemmas.{joined, are_pairs, add_refused}
use Rattle.mqtt_props.proofs.list.PropList.append.Goals as goal

pub invariant_of-self : goal.invariant_of-self
invariant_of-self c =
    let both = joined c.self.inside.pairs c.list.inside.pairs.now c.args.self.now c.args.list.now c.self.invariant c.self.view_is (pairs_of c.list.inside.pairs.now c.args.list.now c.list.invariant c.list.view_is) (pairs_fit c.list.inside.pairs.now c.args.list.now c.list.invariant c.list.view_is).each in
    let same : c.in_ok-self-inside.field-0 ≡ c.self.inside.pairs ++ c.list.inside.pairs.now = c.in_ok-self-inside.ensures.exact ∙ ap (λ (w : List ℕ). w ++ c.list.inside.pairs.now) c.as_slice.ensures in
    let short = both.fits (omega (arith, c.in_ok-self-inside.ensures.short, ap length c.as_slice.ensures)) in
    (are_pairs c.in_ok-self-inside.field-0 c.in_ok-self-inside.field-0 (c.args.self.now ++ c.args.list.now) refl (same ∙ both.is) short c.in_ok-self-inside.ensures.bytes).0

pub returns-clause-ok : goal.returns-clause-ok
returns-clause-ok c =
    let both = joined c.self.inside.pairs c.list.inside.pairs.now c.args.self.now c.args.list.now c.self.invariant c.self.view_is (pairs_of c.list.inside.pairs.now c.args.list.now c.list.invariant c.list.view_is) (pairs_fit c.list.inside.pairs.now c.args.list.now c.list.invariant c.list.view_is).each in
    let same : c.in_ok-self-inside.field-0 ≡ c.self.inside.pairs ++ c.list.inside.pairs.now = c.in_ok-self-inside.ensures.exact ∙ ap (λ (w : List ℕ). w ++ c.list.inside.pairs.now) c.as_slice.ensures in
    let short = both.fits (omega (arith, c.in_ok-self-inside.ensures.short, ap length c.as_slice.ensures)) in
    (are_pairs c.in_ok-self-inside.field-0 c.in_ok-self-inside.field-0 (c.args.self.now ++ c.args.list.now) refl (same ∙ both.is) short c.in_ok-self-inside.ensures.bytes).1

pub returns-in_err-self-inside-clause-refused : goal.returns-in_err-self-inside-clause-refused
returns-in_err-self-inside-clause-refused c =
    let both = joined c.self.inside.pairs c.list.inside.pairs.now c.args.self.now c.args.list.now c.self.invariant c.self.view_is (pairs_of c.list.inside.pairs.now c.args.list.now c.list.invariant c.list.view_is) (pairs_fit c.list.inside.pairs.now c.args.list.now c.list.invariant c.list.view_is).each in
    let p = err_from_is_err_and c.from_residual.result c.from_residual.ensures.1 in
    let fault = c.in_err-self-inside.field-0.0 in
    let long = subst (λ (w : List ℕ). IsTooLong (length w + length c.list.inside.pairs.now) fault) c.as_slice.ensures c.in_err-self-inside.ensures.refused in
    rw (p.1, p.2) (add_refused c.self.inside.pairs c.list.inside.pairs.now (c.args.self.now) (c.args.list.now) fault both long)

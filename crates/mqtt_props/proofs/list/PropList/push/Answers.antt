-- The pairs of the old list and one more (MQTT 5.0, 2.2.2).
use Rattle.std.proofs.Common.{◌≡◌, ◌+◌, ℕ, List, [], ◌∷◌, ◌++◌, length, refl, sym, ap, subst, ◌∙◌, arith}
use Rattle.std.proofs.lemmas.Result.{err_from_is_err_and}
use Rattle.mqtt_props.specs.Edits.{IsTooLong}
use Rattle.mqtt_props.specs.Properties.{prop}
use Rattle.mqtt_props.specs.Views.{prop_of}
use Rattle.mqtt_props.proofs.EditLemmas.{joined, are_pairs, add_refused, props-one}
use Rattle.mqtt_props.proofs.list.PropList.push.Goals as goal

pub invariant_of-self : goal.invariant_of-self
invariant_of-self c =
    let both = joined c.self.inside.pairs c.prop_push.new.out.items c.args.self.now (prop_of c.args.prop ∷ []) c.self.invariant c.self.view_is (c.in_ok-prop_push.ensures.ok ∙ ap (λ (w : List ℕ). w ++ prop (prop_of c.args.prop)) c.new-pair.ensures.items ∙ sym (props-one (prop_of c.args.prop))) (c.fits.ensures.0 c.if-not-fits.false, tt) in
    let same : c.in_ok-self-inside.field-0 ≡ c.self.inside.pairs ++ c.prop_push.new.out.items = c.in_ok-self-inside.ensures.exact ∙ ap (λ (w : List ℕ). w ++ c.as_slice-2.result.now) c.as_slice.ensures ∙ ap (λ (w : List ℕ). c.self.inside.pairs ++ w) c.as_slice-2.ensures.value in
    let short = both.fits (omega (arith, c.in_ok-self-inside.ensures.short, ap length c.as_slice.ensures, ap length c.as_slice-2.ensures.value)) in
    (are_pairs c.in_ok-self-inside.field-0 c.in_ok-self-inside.field-0 (c.args.self.now ++ prop_of c.args.prop ∷ []) refl (same ∙ both.is) short c.in_ok-self-inside.ensures.bytes).0

pub returns-clause-ok : goal.returns-clause-ok
returns-clause-ok c =
    let both = joined c.self.inside.pairs c.prop_push.new.out.items c.args.self.now (prop_of c.args.prop ∷ []) c.self.invariant c.self.view_is (c.in_ok-prop_push.ensures.ok ∙ ap (λ (w : List ℕ). w ++ prop (prop_of c.args.prop)) c.new-pair.ensures.items ∙ sym (props-one (prop_of c.args.prop))) (c.fits.ensures.0 c.if-not-fits.false, tt) in
    let same : c.in_ok-self-inside.field-0 ≡ c.self.inside.pairs ++ c.prop_push.new.out.items = c.in_ok-self-inside.ensures.exact ∙ ap (λ (w : List ℕ). w ++ c.as_slice-2.result.now) c.as_slice.ensures ∙ ap (λ (w : List ℕ). c.self.inside.pairs ++ w) c.as_slice-2.ensures.value in
    let short = both.fits (omega (arith, c.in_ok-self-inside.ensures.short, ap length c.as_slice.ensures, ap length c.as_slice-2.ensures.value)) in
    (are_pairs c.in_ok-self-inside.field-0 c.in_ok-self-inside.field-0 (c.args.self.now ++ prop_of c.args.prop ∷ []) refl (same ∙ both.is) short c.in_ok-self-inside.ensures.bytes).1

pub returns-in_err-self-inside-clause-refused : goal.returns-in_err-self-inside-clause-refused
returns-in_err-self-inside-clause-refused c =
    let both = joined c.self.inside.pairs c.prop_push.new.out.items c.args.self.now (prop_of c.args.prop ∷ []) c.self.invariant c.self.view_is (c.in_ok-prop_push.ensures.ok ∙ ap (λ (w : List ℕ). w ++ prop (prop_of c.args.prop)) c.new-pair.ensures.items ∙ sym (props-one (prop_of c.args.prop))) (c.fits.ensures.0 c.if-not-fits.false, tt) in
    let p = err_from_is_err_and c.from_residual-in_err-self-inside.result c.from_residual-in_err-self-inside.ensures.1 in
    let fault = c.in_err-self-inside.field-0.0 in
    let long = subst (λ (w : List ℕ). IsTooLong (length c.self.inside.pairs + length w) fault) c.as_slice-2.ensures.value (subst (λ (w : List ℕ). IsTooLong (length w + length c.as_slice-2.result.now) fault) c.as_slice.ensures c.in_err-self-inside.ensures.refused) in
    rw (p.1, p.2) (add_refused c.self.inside.pairs c.prop_push.new.out.items (c.args.self.now) (prop_of c.args.prop ∷ []) fault both long)

pub joined-requires-clause-second_short : goal.joined-requires-clause-second_short
joined-requires-clause-second_short c = omega (arith, c.as_slice-2.ensures.len, c.prop_push.new.out.small, c.prop_push.new.out.ok.0)

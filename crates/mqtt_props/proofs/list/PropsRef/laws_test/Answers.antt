-- One more property was seen, and one less is left (MQTT 5.0, 2.2.2.2).
use Rattle.std.proofs.Common.{◌≡◌, ◌&&◌, Bool, true, false, refl, sym, ap, ◌∙◌}
use Rattle.std.proofs.Math.Bool.{and-true, or-false}
use Rattle.mqtt_props.specs.declared.table.PropName.TheVariants.{AuthenticationMethod, AuthenticationData}
use Rattle.mqtt_props.specs.Views.{prop_of}
use Rattle.mqtt_props.proofs.OnePass.{once_first, once_step, has_step, good_step}
use Rattle.mqtt_props.proofs.list.PropsRef.laws_test.Goals.{then-has_lawful_value, else-has_lawful_value}
use Rattle.mqtt_props.proofs.list.PropsRef.laws_test.Goals as goal

pub loop-prop-init : goal.loop-prop-init
loop-prop-init c = rw c.reborrow-rest.ensures (once_first c.args.place c.args.self.now, sym (and-true _), sym (or-false _), sym (or-false _))

pub loop-prop-preserved : goal.loop-prop-preserved
loop-prop-preserved c =
    let p = prop_of c.in-Some.prop in
    let rest = c.loop-prop.rest in
    let after = c.in-Some.after in
    let seen = c.loop-prop.seen in
    let good : c.if-has_lawful_value.good ≡ (c.has_lawful_value.result && c.loop-prop.good) = elim c.if-has_lawful_value.branch [
      | then-has_lawful_value w ↦ w.good-is ∙ ap (λ (b : Bool). b && c.loop-prop.good) (sym w.if-has_lawful_value.true)
      | else-has_lawful_value w ↦ w.good-is ∙ w.if-has_lawful_value.false ∙ ap (λ (b : Bool). b && c.loop-prop.good) (sym w.if-has_lawful_value.false)
    ] in
    let (once, values, has_data, has_method) = c.loop-prop.invariant in
    rw c.see-seen.ensures (
      once_step c.args.place p rest after seen _ c.in-Some.ensures.found (sym c.may_follow.ensures ∙ c.if-not-may_follow.false) once,
      good_step p rest after c.loop-prop.good c.has_lawful_value.result c.if-has_lawful_value.good _ c.in-Some.ensures.found c.has_lawful_value.ensures good values,
      has_step AuthenticationData p rest after seen _ c.in-Some.ensures.found has_data,
      has_step AuthenticationMethod p rest after seen _ c.in-Some.ensures.found has_method,
    )

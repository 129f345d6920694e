use Rattle.std.proofs.Common.{◌≡◌, false, sym, ◌∙◌}
use Rattle.mqtt_props.specs.declared.table.PropName.TheVariants.{UserProperty}
use Rattle.mqtt_props.specs.Laws.{is_named}
use Rattle.mqtt_props.specs.Views.{prop_of}
use Rattle.std.proofs.lemmas.Result.{err_from_is_err_and}
use Rattle.mqtt_records.proofs.lists_lemmas.OrderLemmas.{apart}
use Rattle.mqtt_records.proofs.messages_lemmas.PassedLemmas.{aged-refuses}
use Rattle.mqtt_records.proofs.messages.properties.push_aged.Goals as goal

pub returns-in_err-push-clause-refused : goal.returns-in_err-push-clause-refused
returns-in_err-push-clause-refused c =
    let p = prop_of c.in-Some.prop in
    let other : is_named UserProperty p ≡ false = apart _ _ (λ e. c.if-id.true (c.id.ensures.exact ∙ (e ∙ sym c.id-in-Some.ensures.exact))) in
    let e = err_from_is_err_and c.from_residual.result c.from_residual.ensures.1 in
    rw (e.1, e.2) (aged-refuses c.args.waited c.loop-prop.list c.loop-prop.rest c.in-Some.after _ p (prop_of c.aged.result) c.in_err-push.field-0.0 c.in-Some.ensures.found other c.aged.ensures c.loop-prop.invariant c.in_err-push.ensures.refused)

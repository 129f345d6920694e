use Rattle.std.proofs.Common.{sym, refl, ◌∙◌}
use Rattle.mqtt_props.specs.declared.table.PropName.TheVariants.{TopicAlias}
use Rattle.mqtt_props.specs.Views.{prop_of}
use Rattle.mqtt_broker_looks.proofs.decided_lemmas.Looks.{kind_found, is_u16}
use Rattle.mqtt_broker_queue.proofs.publications.aliasing.alias_of.Goals as goal

pub returns-in_default : goal.returns-in_default
returns-in_default c =
    let p = prop_of c.in-Some.prop in
    let kind = kind_found TopicAlias c.args.list.now p (sym c.in-Some.ensures.found) c.in-Some.ensures.fits in
    let number = is_u16 c.in-Some.prop.value (kind ∙ refl) in
    absurd (c.in_default.not-U16 number.0 number.1)

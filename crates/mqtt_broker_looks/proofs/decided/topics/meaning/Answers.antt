use Rattle.std.proofs.Common.{List, ap, subst, sym, ◌∙◌}
use Rattle.mqtt_props.specs.declared.table.PropName.TheVariants.{SubscriptionIdentifier, TopicAlias}
use Rattle.mqtt_props.specs.Properties.{Prop}
use Rattle.mqtt_props.specs.Laws.{has}
use Rattle.mqtt_records.specs.messages.PassedOn.{number_at}
use Rattle.mqtt_broker_looks.specs.decided.Verdicts.{RefusesMeaning}
use Rattle.mqtt_broker_looks.proofs.decided_lemmas.Looks.{refused_as}
use Rattle.mqtt_broker_looks.proofs.decided.topics.meaning.Goals as goal

pub returns-in-Err-clause-refused : goal.returns-in-Err-clause-refused
returns-in-Err-clause-refused c =
    let p = c.args.publish.now in
    let table = c.args.aliases.now.table in
    let none = ap (λ (ps : List Prop). has SubscriptionIdentifier ps) (sym c.lend-list.ensures) ∙ sym c.has.ensures ∙ c.if-has.false in
    let alias = c.u16_at-alias.ensures ∙ ap (λ (ps : List Prop). number_at TopicAlias ps) c.lend-list.ensures in
    subst (RefusesMeaning p table) (sym c.unmeant_by.ensures)
    (refused_as p table c.in-Err.fault c.u16_at-alias.result none c.as_str-spelled.ensures.good alias c.in-Err.ensures.refused)

use Rattle.std.proofs.Common.{◌≡◌, ap, sym, ◌∙◌}
use Rattle.std.specs.Prelude.{Some}
use Rattle.mqtt_props.specs.declared.table.PropName.TheVariants.{TopicAlias}
use Rattle.mqtt_records.specs.messages.PassedOn.{number_at}
use Rattle.mqtt_broker_queue.proofs.publications_lemmas.Aliased.{alias_range}
use Rattle.mqtt_broker_queue.proofs.publications.aliasing.set_alias.Goals as goal

pub set_alias-requires : goal.set_alias-requires
set_alias-requires c =
    let there : number_at TopicAlias c.args.publish.now.properties ≡ Some c.in-Some.alias =
    ap (number_at TopicAlias) (sym c.lend.ensures) ∙ sym c.in-Some.ensures in
    record { range = λ l found. alias_range c.args.publish.now l.aliases c.args.topic.now c.in-Some.alias there (c.requires l found) }

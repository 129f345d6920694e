use Rattle.std.proofs.Common.{map}
use Rattle.std.proofs.lemmas.Result.{err_from_is_err_and}
use Rattle.mqtt_props.specs.declared.table.PropName.TheVariants.{UserProperty}
use Rattle.mqtt_props.specs.Edits.{only, without}
use Rattle.mqtt_records.specs.messages.PassedOn.{aged, identified}
use Rattle.mqtt_records.proofs.messages_lemmas.PassedLemmas.{first-refuses, second-refuses}
use Rattle.mqtt_records.proofs.messages.properties.push_sent.Goals as goal

pub returns-in_err-push_aged-clause-refused : goal.returns-in_err-push_aged-clause-refused
returns-in_err-push_aged-clause-refused c =
    let p = err_from_is_err_and c.from_residual.result c.from_residual.ensures.1 in
    let ps = c.args.props.now in
    rw (p.1, p.2) (first-refuses c.args.list.now (map (aged c.args.waited) (without UserProperty ps)) (map identified c.args.identifiers.now) (only UserProperty ps) c.in_err-push_aged.field-0.0 c.requires c.in_err-push_aged.ensures.refused)

pub returns-in_err-push_identifiers-clause-refused : goal.returns-in_err-push_identifiers-clause-refused
returns-in_err-push_identifiers-clause-refused c =
    let p = err_from_is_err_and c.from_residual-in_err-push_identifiers.result c.from_residual-in_err-push_identifiers.ensures.1 in
    let ps = c.args.props.now in
    rw (p.1, p.2) (second-refuses c.args.list.now c.push_aged.new.list (map (aged c.args.waited) (without UserProperty ps)) (map identified c.args.identifiers.now) (only UserProperty ps) c.in_err-push_identifiers.field-0.0 c.requires c.in_ok-push_aged.ensures.ok c.in_err-push_identifiers.ensures.refused)

use Rattle.std.proofs.Common.{◌≡◌, true, List, ap, sym, subst, ◌∙◌}
use Rattle.std.specs.Prelude.{Err}
use Rattle.mqtt_props.specs.Properties.{Prop}
use Rattle.mqtt_props.specs.declared.table.PropName.TheVariants.{SubscriptionIdentifier}
use Rattle.mqtt_props.specs.Edits.{without}
use Rattle.mqtt_records.specs.messages.PassedOn.{IsPassedOn}
use Rattle.mqtt_keep.specs.declared.keeping.keep.KeepError.{KeepError}
use Rattle.mqtt_store_rows.specs.values.Blocks.{rises_from}
use Rattle.mqtt_store_rows.specs.values.Ones.{one_block}
use Rattle.mqtt_store_rows.proofs.taking_over.block.sent.Goals as goal

pub returns-in_default-clause-err : goal.returns-in_default-clause-err
returns-in_default-clause-err c e ps ids says = c.in_default.ensures says.all says.block

pub returns-then-not-rises-clause-err : goal.returns-then-not-rises-clause-err
returns-then-not-rises-clause-err c e ps ids says =
    let same : says.all ≡ c.in-Some.props = one_block _ says.all c.in-Some.props _ says.block c.in-Some.ensures in
    let order : rises_from 0 c.in-Some.props ≡ true = subst (λ (all : List Prop). rises_from 0 all ≡ true) same says.order in
    let down = c.rises.ensures in
    let fell = c.if-not-rises.true in
    absurd cc

pub returns-in-Err-clause-err : goal.returns-in-Err-clause-err
returns-in-Err-clause-err c e ps ids says =
    let is : c.in-Err.fault ≡ KeepError.Corrupt = cc in
    let same : says.all ≡ c.in-Some.props = one_block _ says.all c.in-Some.props _ says.block c.in-Some.ensures in
    c.in-Err.ensures.err (ap Err is) (subst IsPassedOn (sym says.passed ∙ ap (without SubscriptionIdentifier) same) says.goes_on)

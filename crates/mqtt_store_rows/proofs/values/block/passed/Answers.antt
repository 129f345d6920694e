use Rattle.std.proofs.Common.{◌≡◌, subst}
use Rattle.mqtt_records.specs.messages.PassedOn.{IsPassedOn}
use Rattle.mqtt_store_rows.specs.values.Ones.{one_block}
use Rattle.mqtt_store_rows.proofs.values.block.passed.Goals as goal

pub returns-in_default-clause-err : goal.returns-in_default-clause-err
returns-in_default-clause-err c e ps says = c.in_default.ensures ps says.block

pub returns-in-None-clause-err : goal.returns-in-None-clause-err
returns-in-None-clause-err c e ps says =
    let same : ps ≡ c.in-Some.props = one_block _ ps c.in-Some.props _ says.block c.in-Some.ensures in
    c.in-None.ensures (rw c.in_ok-to_list.ensures (subst IsPassedOn same says.goes_on))

use Rattle.std.proofs.Common.{◌≡◌, ◌++◌, ◌^◌, ◌<◌, rules, arith}
use Rattle.std.specs.Prelude.{decimal}
use Rattle.mqtt_broker_looks.proofs.decided_lemmas.Names.{assigned_fits}
use Rattle.mqtt_broker_looks.proofs.decided.connecting.assigned_name.Goals as goal
use Rattle.mqtt_records.specs.state.Session.{auto}

pub new-name-requires : goal.new-name-requires
new-name-requires c =
    let small : c.args.number < 2 ^ 64 = omega arith in
    let is : c.as_str.result.now ≡ auto ++ decimal c.args.number = search rules in
    assigned_fits c.args.number c.as_str.result.now small is c.as_str.utf8

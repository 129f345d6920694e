use Rattle.std.proofs.Common.{◌≡◌, rules}
use Rattle.mqtt_store_database.proofs.committing_lemmas.Spelled.{identifiers_fit}
use Rattle.mqtt_store_database.proofs.committing.parts.push_sent.Goals as goal

pub push_each-requires : goal.push_each-requires
push_each-requires c =
    let same : c.as_slice.result.now ≡ c.args.row.now.copy.identifiers = search rules in
    rw same (identifiers_fit c.args.row.now.copy c.size-size.ensures.spelled)

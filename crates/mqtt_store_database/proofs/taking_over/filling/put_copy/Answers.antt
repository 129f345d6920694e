use Rattle.std.proofs.Common.{◌≡◌, rules}
use Rattle.sqlite.specs.Held.{state}
use Rattle.mqtt_store_database.proofs.taking_over_lemmas.Making.{copy_needs}
use Rattle.mqtt_store_database.proofs.taking_over.filling.put_copy.Goals as goal

pub returns-clause-put : goal.returns-clause-put
returns-clause-put g c making clean whole =
    let old = state g.S.Store c.args.tx.now.conn.now in
    let same : c.in-Ok.row ≡ c.args.row.now = search rules in
    let did = c.write_change-put.ensures in
    (rw same at (did.made making clean whole (copy_needs making c.args.birth c.in-Ok.row old.now.trees)), did.whole making clean whole)

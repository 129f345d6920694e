use Rattle.sqlite.specs.Held.{state}
use Rattle.mqtt_store_database.specs.asking.Listing.{tree_of, columns_of, key_of}
use Rattle.mqtt_store_database.proofs.reading_lemmas.Vacant.{vacant_is}
use Rattle.mqtt_store_database.proofs.reading.loading.is_vacant.Goals as goal

pub returns-clause-vacant : goal.returns-clause-vacant
returns-clause-vacant g c making clean schema stands =
    let rows = c.in_ok-rows.rows in
    vacant_is (columns_of c.args.table) (key_of c.args.table) ((state g.S.Store c.args.conn.now).now.trees (tree_of c.args.table)) rows.items rows.len c.is_empty.result rows.ok.0
    (c.in_ok-rows.ensures.second making clean schema stands) c.is_empty.ensures

use Rattle.std.proofs.Common.{arith, sym, subst}
use Rattle.sqlite_catalog.specs.Listing.{Lists}
use Rattle.sqlite_trees.specs.Objects.{catalog_tree}
use Rattle.sqlite.specs.Held.{state}
use Rattle.mqtt_store_tables.specs.schema.Tables.{second_schema}
use Rattle.mqtt_store_tables.specs.declared.schema.tables.Making.TheVariants.{TakenOver}
use Rattle.mqtt_store_tables.proofs.messages_lemmas.Behind.{asked}
use Rattle.mqtt_store_tables.proofs.messages_lemmas.Inside.{clean_before}
use Rattle.mqtt_store_database.proofs.committing_lemmas.Catalog.{no_index}
use Rattle.mqtt_store_database.proofs.taking_over_lemmas.tables.Emptied.{second}
use Rattle.mqtt_store_database.proofs.taking_over_lemmas.tables.Bare.{numbers_stay, schema_stands, bare_keeps}
use Rattle.mqtt_store_database.proofs.taking_over.second.empty_first.Goals as goal

pub returns-clause-kept : goal.returns-clause-kept
returns-clause-kept g c clean was r whole keeps adds =
    let start = state g.S.Store was in
    let added = state g.S.Store c.args.tx.now.conn.now in
    let left = state g.S.Store c.empty_copies.new.tx.conn.now in
    let bare = state g.S.Store c.empty_retained.new.tx.conn.now in
    let last = state g.S.Store c.set_number.new.tx.conn.now in
    let clean_bare = clean_before bare last c.set_number.ensures.inside clean in
    let clean_left = clean_before left bare c.empty_retained.ensures.inside clean_bare in
    let one = c.in_ok-empty_copies.ensures.emptied clean_left was whole adds in
    let two = c.in_ok-empty_retained.ensures.emptied clean_bare one.1 in
    let stand = schema_stands r bare.now.trees (numbers_stay r start.now.trees added.now.trees left.now.trees bare.now.trees keeps adds.kept adds.empty one.0 two.0) in
    let three = c.in_ok-set_number.ensures.set second (asked TakenOver) stand.0 1 stand.1 clean two.1 in
    bare_keeps r start.now.trees added.now.trees left.now.trees bare.now.trees keeps adds.kept adds.empty one.0 two.0 last.now.trees two.1.meta stand.0 stand.1 three.0

pub returns-clause-whole : goal.returns-clause-whole
returns-clause-whole g c clean was whole adds =
    let left = state g.S.Store c.empty_copies.new.tx.conn.now in
    let bare = state g.S.Store c.empty_retained.new.tx.conn.now in
    let clean_bare = clean_before bare (state g.S.Store c.set_number.new.tx.conn.now) c.set_number.ensures.inside clean in
    let one = c.in_ok-empty_copies.ensures.emptied (clean_before left bare c.empty_retained.ensures.inside clean_bare) was whole adds in
    c.in_ok-set_number.ensures.whole second (asked TakenOver) clean (c.in_ok-empty_retained.ensures.emptied clean_bare one.1).1

pub returns-clause-lists : goal.returns-clause-lists
returns-clause-lists g c clean was r whole keeps adds =
    let start = state g.S.Store was in
    let added = state g.S.Store c.args.tx.now.conn.now in
    let left = state g.S.Store c.empty_copies.new.tx.conn.now in
    let bare = state g.S.Store c.empty_retained.new.tx.conn.now in
    let last = state g.S.Store c.set_number.new.tx.conn.now in
    let clean_bare = clean_before bare last c.set_number.ensures.inside clean in
    let clean_left = clean_before left bare c.empty_retained.ensures.inside clean_bare in
    let one = c.in_ok-empty_copies.ensures.emptied clean_left was whole adds in
    let two = c.in_ok-empty_retained.ensures.emptied clean_bare one.1 in
    let stand = schema_stands r bare.now.trees (numbers_stay r start.now.trees added.now.trees left.now.trees bare.now.trees keeps adds.kept adds.empty one.0 two.0) in
    let three = c.in_ok-set_number.ensures.set second (asked TakenOver) stand.0 1 stand.1 clean two.1 in
    subst (λ l. Lists l (second_schema TakenOver)) (sym (three.0.others catalog_tree (omega arith) (no_index TakenOver))) (c.in_ok-empty_retained.ensures.lists clean_bare one.1)

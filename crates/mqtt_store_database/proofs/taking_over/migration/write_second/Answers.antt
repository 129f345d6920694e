use Rattle.std.proofs.Common.{sym, subst}
use Rattle.std.proofs.lemmas.Result.{on_ok_weaker}
use Rattle.sqlite_catalog.specs.Listing.{Lists}
use Rattle.sqlite.specs.Held.{state}
use Rattle.mqtt_store_tables.specs.schema.Tables.{second_schema}
use Rattle.mqtt_store_tables.specs.declared.schema.tables.Making.TheVariants.{TakenOver}
use Rattle.mqtt_store_tables.proofs.messages_lemmas.Inside.{clean_before}
use Rattle.mqtt_store_database.proofs.committing_lemmas.Catalog.{steps_keep}
use Rattle.mqtt_store_database.specs.taking_over.Puts.{puts_of}
use Rattle.mqtt_store_database.proofs.taking_over_lemmas.tables.Filled.{filled}
use Rattle.mqtt_store_database.proofs.taking_over.migration.write_second.Goals as goal

pub returns-clause-kept : goal.returns-clause-kept
returns-clause-kept g c clean whole keeps lawful =
    let mid = state g.S.Store c.make_second.new.tx.conn.now in
    let new = state g.S.Store c.put_all.new.tx.conn.now in
    let tidy = clean_before mid new c.put_all.ensures.inside clean in
    let first = c.in_ok-make_second.ensures.kept tidy c.args.records.now whole keeps in
    let second = c.in_ok-make_second.ensures.whole tidy whole in
    filled mid new c.args.records.now c.put_all.result lawful keeps.sayable first second (c.put_all.ensures.put TakenOver clean second).0

pub returns-clause-whole : goal.returns-clause-whole
returns-clause-whole g c clean whole =
    let mid = state g.S.Store c.make_second.new.tx.conn.now in
    let new = state g.S.Store c.put_all.new.tx.conn.now in
    (c.put_all.ensures.put TakenOver clean (c.in_ok-make_second.ensures.whole (clean_before mid new c.put_all.ensures.inside clean) whole)).1

pub returns-clause-lists : goal.returns-clause-lists
returns-clause-lists g c clean whole keeps =
    let mid = state g.S.Store c.make_second.new.tx.conn.now in
    let new = state g.S.Store c.put_all.new.tx.conn.now in
    let tidy = clean_before mid new c.put_all.ensures.inside clean in
    let first = c.in_ok-make_second.ensures.lists tidy c.args.records.now whole keeps in
    let second = c.in_ok-make_second.ensures.whole tidy whole in
    on_ok_weaker c.put_all.result
    (λ makes. subst (λ l. Lists l (second_schema TakenOver)) (sym (steps_keep TakenOver (puts_of c.args.records.now) mid.now.trees new.now.trees makes)) first)
    (c.put_all.ensures.put TakenOver clean second).0

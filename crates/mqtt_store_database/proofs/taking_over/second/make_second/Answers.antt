use Rattle.sqlite.specs.Held.{state}
use Rattle.mqtt_store_tables.specs.declared.schema.tables.Making.TheVariants.{TakenOver}
use Rattle.mqtt_store_tables.proofs.messages_lemmas.Inside.{clean_before}
use Rattle.mqtt_store_database.proofs.taking_over.second.make_second.Goals as goal

pub returns-clause-kept : goal.returns-clause-kept
returns-clause-kept g c clean r whole keeps =
    let mid = state g.S.Store c.add_tables.new.tx.conn.now in
    let tidy = clean_before mid (state g.S.Store c.empty_first.new.tx.conn.now) c.empty_first.ensures.inside clean in
    c.empty_first.ensures.kept clean c.args.tx.now.conn.now r whole keeps (c.in_ok-add_tables.ensures.made tidy TakenOver whole.schema whole.inside)

pub returns-clause-whole : goal.returns-clause-whole
returns-clause-whole g c clean whole =
    let mid = state g.S.Store c.add_tables.new.tx.conn.now in
    let tidy = clean_before mid (state g.S.Store c.empty_first.new.tx.conn.now) c.empty_first.ensures.inside clean in
    c.empty_first.ensures.whole clean c.args.tx.now.conn.now whole (c.in_ok-add_tables.ensures.made tidy TakenOver whole.schema whole.inside)

pub returns-clause-lists : goal.returns-clause-lists
returns-clause-lists g c clean r whole keeps =
    let mid = state g.S.Store c.add_tables.new.tx.conn.now in
    let tidy = clean_before mid (state g.S.Store c.empty_first.new.tx.conn.now) c.empty_first.ensures.inside clean in
    c.empty_first.ensures.lists clean c.args.tx.now.conn.now r whole keeps (c.in_ok-add_tables.ensures.made tidy TakenOver whole.schema whole.inside)

use Rattle.sqlite.specs.Held.{state}
use Rattle.mqtt_store_tables.proofs.forms_lemmas.Kept.{stays_inside}
use Rattle.mqtt_store_database.proofs.taking_over_lemmas.tables.Emptied.{empties_retained, lists_second}
use Rattle.mqtt_store_database.proofs.taking_over.second.empty_retained.Goals as goal

pub returns-clause-emptied : goal.returns-clause-emptied
returns-clause-emptied g c clean whole =
    empties_retained (state g.S.Store c.args.tx.now.conn.now) (state g.S.Store c.execute.new.self.conn.now) c.execute.result whole (c.execute.ensures.runs clean whole.inside)

pub returns-clause-inside : goal.returns-clause-inside
returns-clause-inside g c = stays_inside g.S.Store _ _ _ _ c.execute.result c.execute.ensures.ended c.execute.ensures.runs c.execute.ensures.survives

pub returns-clause-lists : goal.returns-clause-lists
returns-clause-lists g c clean whole =
    lists_second (state g.S.Store c.args.tx.now.conn.now) (state g.S.Store c.execute.new.self.conn.now) c.execute.result whole (c.execute.ensures.runs clean whole.inside)

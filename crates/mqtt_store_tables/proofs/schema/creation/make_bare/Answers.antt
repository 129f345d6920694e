use Rattle.std.proofs.Common.{arith}
use Rattle.sqlite.specs.Held.{state}
use Rattle.sqlite.specs.State.{HasCleanDisk}
use Rattle.mqtt_store_tables.specs.declared.schema.tables.Making.TheVariants.{New}
use Rattle.mqtt_store_tables.proofs.schema_lemmas.Adding.{bare}
use Rattle.mqtt_store_tables.proofs.schema.creation.make_bare.Goals as goal

pub returns-clause-made : goal.returns-clause-made
returns-clause-made g c clean none =
    let mid = state g.S.Store c.make_tables.new.tx.conn.now in
    let tidy : HasCleanDisk mid = omega (arith, c.add_tables.ensures.inside.survives.clean, clean) in
    let first = c.in_ok-make_tables.ensures.made tidy none in
    bare mid (state g.S.Store c.add_tables.new.tx.conn.now) c.add_tables.result first (c.add_tables.ensures.made clean New first.schema first.inside)

use Rattle.sqlite.specs.Held.{state}
use Rattle.mqtt_store_tables.proofs.forms_lemmas.Kept.{stays_inside}
use Rattle.mqtt_store_tables.proofs.schema_lemmas.Filling.{fills}
use Rattle.mqtt_store_tables.proofs.schema.creation.fill_meta.Goals as goal

pub returns-clause-made : goal.returns-clause-made
returns-clause-made g c clean has =
    fills (state g.S.Store c.args.tx.now.conn.now) (state g.S.Store c.execute.new.self.conn.now) c.execute.result has (c.execute.ensures.runs clean has.inside)

pub returns-clause-inside : goal.returns-clause-inside
returns-clause-inside g c = stays_inside g.S.Store _ _ _ _ c.execute.result c.execute.ensures.ended c.execute.ensures.runs c.execute.ensures.survives

use Rattle.std.proofs.Common.{arith, w64, pos}
use Rattle.std.proofs.lemmas.Int.{to_z-of_z}
use Rattle.sqlite.specs.Held.{state}
use Rattle.mqtt_store_tables.proofs.forms_lemmas.Kept.{stays_inside}
use Rattle.mqtt_store_tables.proofs.messages_lemmas.SweepMessage.{sweeps}
use Rattle.mqtt_store_tables.proofs.messages.messages.sweep_message.Goals as goal

pub returns-clause-swept : goal.returns-clause-swept
returns-clause-swept g c making clean whole =
    sweeps making (pos c.args.publication) (state g.S.Store c.args.tx.now.conn.now) (state g.S.Store c.execute.new.self.conn.now) c.execute.result whole
    (rw (c.params-to_sql.ensures, c.whole-publication.ensures, to_z-of_z w64 (pos c.args.publication) (omega arith)) at (c.execute.ensures.runs clean whole.inside))

pub returns-clause-inside : goal.returns-clause-inside
returns-clause-inside g c = stays_inside g.S.Store _ _ _ _ c.execute.result c.execute.ensures.ended c.execute.ensures.runs c.execute.ensures.survives

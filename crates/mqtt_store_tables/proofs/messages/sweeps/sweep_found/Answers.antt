use Rattle.sqlite.specs.Held.{state}
use Rattle.mqtt_store_tables.proofs.messages_lemmas.Sweeping.{sweeps_none}
use Rattle.mqtt_store_tables.proofs.messages.sweeps.sweep_found.Goals as goal

pub returns-in-None-clause-swept : goal.returns-in-None-clause-swept
returns-in-None-clause-swept g c making clean whole = rw c.in-None.is (sweeps_none making (state g.S.Store c.args.tx.now.conn.now).now.trees, whole)

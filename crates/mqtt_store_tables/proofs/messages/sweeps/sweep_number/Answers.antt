use Rattle.sqlite.specs.Held.{state}
use Rattle.mqtt_store_tables.proofs.messages_lemmas.Sweeping.{sweeps_one}
use Rattle.mqtt_store_tables.proofs.messages.sweeps.sweep_number.Goals as goal

pub returns-in-Ok-clause-swept : goal.returns-in-Ok-clause-swept
returns-in-Ok-clause-swept g c making clean whole =
    let did = c.in-Ok.ensures.swept making clean whole in
    (sweeps_one making c.args.publication (state g.S.Store c.args.tx.now.conn.now).now.trees (state g.S.Store c.sweep_message.new.tx.conn.now).now.trees did.0, did.1)

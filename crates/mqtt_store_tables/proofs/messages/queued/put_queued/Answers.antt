use Rattle.sqlite.specs.Held.{state}
use Rattle.mqtt_store_tables.proofs.messages_lemmas.PutQueued.{puts}
use Rattle.mqtt_store_tables.proofs.messages.queued.put_queued.Goals as goal

pub returns-clause-put : goal.returns-clause-put
returns-clause-put g c making clean whole =
    puts making c.args.birth c.args.place c.args.copy.now (state g.S.Store c.args.tx.now.conn.now) (state g.S.Store c.run_on_columns.new.tx.conn.now) c.run_on_columns.result whole (c.run_on_columns.ensures.runs clean whole.inside)

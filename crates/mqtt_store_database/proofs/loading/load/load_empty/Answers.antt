use Rattle.mqtt_store_database.proofs.loading_lemmas.Left.{empty_load}
use Rattle.mqtt_store_database.proofs.loading.load.load_empty.Goals as goal

pub returns-clause-loads : goal.returns-clause-loads
returns-clause-loads g c =
    let e = c.begin_second.ensures in
    empty_load g.S.Store c.args.conn.now c.begin_second.new.conn c.requires.tidy c.requires.ordered c.requires.schema e.crash e.was_open c.begin_second.result e.ok e.made e.begun e.err e.fault

use Rattle.mqtt_store_database.proofs.loading_lemmas.Left.{second_load}
use Rattle.mqtt_store_database.proofs.loading.load.load_second.Goals as goal

pub returns-clause-loads : goal.returns-clause-loads
returns-clause-loads g c =
    let e = c.records_or_refusal.ensures in
    second_load g.S.Store c.args.conn.now c.records_or_refusal.new.conn c.args.making c.requires.tidy c.requires.ordered c.schema-schema.ensures.live e.reads c.requires.schema c.records_or_refusal.result e.is_open e.ok e.refused

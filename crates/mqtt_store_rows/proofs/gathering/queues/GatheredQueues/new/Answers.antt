use Rattle.mqtt_store_rows.specs.rows.Tables.{rows_in}
use Rattle.mqtt_store_rows.proofs.gathering_lemmas.QueuesLemmas.{all_stand}
use Rattle.mqtt_store_rows.proofs.gathering.queues.GatheredQueues.new.Goals as goal

pub begun_with-requires-clause-stand : goal.begun_with-requires-clause-stand
begun_with-requires-clause-stand c = all_stand c.in-Some.messages (rows_in c.args.tables.now).kept c.in-Ok.heads.retained c.in-Ok.ensures.ok.retained

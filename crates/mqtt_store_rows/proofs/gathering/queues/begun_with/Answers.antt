use Rattle.mqtt_store_rows.proofs.gathering_lemmas.QueuesLemmas.{begun, heads_first}
use Rattle.mqtt_store_rows.proofs.gathering.queues.begun_with.Goals as goal

pub returns-clause-begun : goal.returns-clause-begun
returns-clause-begun c = begun c.args.messages c.in-Ok.all c.new-2.result c.args.heads c.in-Ok.ensures c.new-2.ensures.items c.requires.bare c.requires.lawful c.requires.stand

pub returns-clause-heads : goal.returns-clause-heads
returns-clause-heads c = heads_first c.args.messages c.in-Ok.all c.new-2.result c.args.heads c.in-Ok.ensures c.requires.bare

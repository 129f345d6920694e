use Rattle.mqtt_store_tables.proofs.messages_lemmas.Done.{on_uncounted, known_makes, copy_set}
use Rattle.mqtt_store_tables.proofs.messages.kinds.change_queue.Goals as goal

pub returns-in-PutCopy-clause-made : goal.returns-in-PutCopy-clause-made
returns-in-PutCopy-clause-made g c making clean whole = known_makes making _ _ _ _ c.put_copy.result c.in-PutCopy.is (λ asks. (c.put_copy.ensures.put making clean whole).0)

pub returns-in-SetCopy-clause-made : goal.returns-in-SetCopy-clause-made
returns-in-SetCopy-clause-made g c making clean whole = known_makes making _ _ _ _ c.done.result c.in-SetCopy.is
    (λ asks. rw c.done.ensures (copy_set making _ _ _ _ _ asks.0 asks.1 _ _ c.set_queued.result asks.2 (c.set_queued.ensures.set making asks.0 asks.1 asks.2 clean whole).0))

pub returns-in-SetCopy-clause-whole : goal.returns-in-SetCopy-clause-whole
returns-in-SetCopy-clause-whole g c making clean whole = rw c.done.ensures (on_uncounted _ c.set_queued.result (c.set_queued.ensures.whole making clean whole))

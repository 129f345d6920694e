use Rattle.mqtt_store_database.proofs.item_laws_lemmas.records.Said.{all_said}
use Rattle.mqtt_store.proofs.keep.SqlKeepKeep.apply.Goals as goal

pub returns-clause-ok : goal.returns-clause-ok
returns-clause-ok g c = rw c.note.ensures.conn (λ r has fit say same. c.apply_all-answer.ensures.ok r has fit same (all_said c.args.changes.now say c.all_pass_on.ensures))

pub returns-clause-same : goal.returns-clause-same
returns-clause-same g c = rw c.note.ensures.conn (λ is. (let s = c.apply_all-answer.ensures.same is in (s.0, λ r has fit say same. s.1 r has)))

pub returns-clause-crash : goal.returns-clause-crash
returns-clause-crash g c = rw c.note.ensures.conn (λ r left has fit say same found. c.apply_all-answer.ensures.crash r left has fit same (all_said c.args.changes.now say c.all_pass_on.ensures) found)

use Rattle.std.proofs.Common.{inl}
use Rattle.mqtt_store.proofs.Asked.{on_ok}
use Rattle.mqtt_store.proofs.keep.SqlKeepKeep.contents.Goals as goal

pub returns-clause-exact : goal.returns-clause-exact
returns-clause-exact g c = rw c.note.ensures.conn c.read_contents-answer.ensures.exact

pub returns-clause-same : goal.returns-clause-same
returns-clause-same g c r has = rw c.note.ensures.conn (on_ok c.read_contents-answer.result (c.read_contents-answer.ensures.same r has))

pub returns-clause-memory : goal.returns-clause-memory
returns-clause-memory g c r has told = rw c.note.ensures.conn (c.read_contents-answer.ensures.memory told, c.read_contents-answer.ensures.same r has)

pub returns-clause-crash : goal.returns-clause-crash
returns-clause-crash g c = rw c.note.ensures.conn (λ r left has may. inl (c.read_contents-answer.ensures.crash left may))

pub returns-clause-sound : goal.returns-clause-sound
returns-clause-sound g c = rw c.note.ensures.conn c.read_contents-answer.ensures.sound

pub returns-clause-loaded : goal.returns-clause-loaded
returns-clause-loaded g c = rw c.note.ensures.conn c.read_contents-answer.ensures.loaded

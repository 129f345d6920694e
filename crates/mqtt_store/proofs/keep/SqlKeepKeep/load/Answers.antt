use Rattle.mqtt_store.proofs.Loads.{read_on}
use Rattle.mqtt_store.proofs.keep.SqlKeepKeep.load.Goals as goal

pub returns-clause-read : goal.returns-clause-read
returns-clause-read g c = read_on g.S.Store c.args.self.now.conn c.load_slim-answer.new.conn c.note.new.self.conn c.load_slim-answer.result c.note.ensures.conn c.load_slim-answer.ensures.read

pub returns-clause-loaded : goal.returns-clause-loaded
returns-clause-loaded g c = rw c.note.ensures.conn c.load_slim-answer.ensures.loaded

pub returns-clause-same : goal.returns-clause-same
returns-clause-same g c = rw c.note.ensures.conn c.load_slim-answer.ensures.same

pub returns-clause-crash : goal.returns-clause-crash
returns-clause-crash g c = rw c.note.ensures.conn c.load_slim-answer.ensures.crash

pub returns-clause-sound : goal.returns-clause-sound
returns-clause-sound g c = rw c.note.ensures.conn c.load_slim-answer.ensures.sound

pub returns-clause-refused : goal.returns-clause-refused
returns-clause-refused g c = rw c.note.ensures.conn c.load_slim-answer.ensures.refused

use Rattle.mqtt_replay.proofs.playing.replaying.replay.Goals as goal

pub returns-clause-ok : goal.returns-clause-ok
returns-clause-ok g c = rw c.new-script.ensures at c.replay_by-played.ensures.ok

pub returns-clause-err : goal.returns-clause-err
returns-clause-err g c = rw c.new-script.ensures at c.replay_by-played.ensures.err

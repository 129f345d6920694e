-- What was read so far was shown.
use Rattle.mqtt_replay.proofs.playing_lemmas.Pieces.{FedSoFar}
use Rattle.mqtt_replay.proofs.playing.replaying.replay_by.Given as goal

abbrev pub invariant-loop : goal.invariant-loop
invariant-loop g l =
    FedSoFar g.P.Runs.play l.held.items (g.R.Read.remaining l.fn.reader) (g.R.Read.remaining l.reader) l.fn.script l.script (g.W.Write.contents l.fn.writer) (g.W.Write.contents l.writer)

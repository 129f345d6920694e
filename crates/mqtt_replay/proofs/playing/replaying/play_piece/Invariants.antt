-- The bytes that were taken feed the lines so far.
use Rattle.std.proofs.Common.{◌≡◌, ℕ, List, ◌++◌, length}
use Rattle.mqtt_replay.specs.playing.Replaying.{Feeds}
use Rattle.mqtt_replay.proofs.playing.replaying.play_piece.Given as goal

abbrev pub invariant-loop-byte : goal.invariant-loop-byte
invariant-loop-byte g l =
    (taken : List ℕ) × (l.piece ≡ taken ++ l.rest)
    × Feeds g.P.Runs.play l.fn.held.items taken l.held.items l.fn.script l.script (g.W.Write.contents l.fn.writer) (g.W.Write.contents l.writer)

abbrev pub decreases-loop-byte : goal.decreases-loop-byte
decreases-loop-byte g l = length l.rest

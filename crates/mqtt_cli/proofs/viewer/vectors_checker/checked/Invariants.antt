-- Each vector is judged or to come.
use Rattle.std.proofs.Common.{length}
use Rattle.mqtt_cli.proofs.viewer_lemmas.RightVectors.{JudgedSoFar}
use Rattle.mqtt_cli.proofs.viewer.vectors_checker.checked.Given as goal

abbrev pub invariant-loop-first : goal.invariant-loop-first
invariant-loop-first l = JudgedSoFar l.vectors l.rights.items l.rest

abbrev pub decreases-loop-first : goal.decreases-loop-first
decreases-loop-first l = length l.rest

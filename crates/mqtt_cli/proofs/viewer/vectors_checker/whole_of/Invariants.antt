-- What came is held and begins with no packet yet; each piece leaves fewer bytes.
use Rattle.std.proofs.Common.{length}
use Rattle.mqtt_cli.proofs.viewer_lemmas.RightVectors.{WaitsFor}
use Rattle.mqtt_cli.proofs.viewer.vectors_checker.whole_of.Given as goal

abbrev pub invariant-loop-rest : goal.invariant-loop-rest
invariant-loop-rest l = WaitsFor l.frame l.framer.held l.rest

abbrev pub decreases-loop-rest : goal.decreases-loop-rest
decreases-loop-rest l = length l.rest

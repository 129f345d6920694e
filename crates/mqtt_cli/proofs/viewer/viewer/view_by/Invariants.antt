use Rattle.mqtt_cli.proofs.viewer_lemmas.Lines.{ViewsSoFar}
use Rattle.mqtt_cli.proofs.viewer.viewer.view_by.Given as goal

abbrev pub invariant-loop : goal.invariant-loop
invariant-loop g l =
    ViewsSoFar l.details l.framer (g.R.Read.remaining l.initial.reader) (g.R.Read.remaining l.reader) (g.W.Write.contents l.initial.writer) (g.W.Write.contents l.writer)

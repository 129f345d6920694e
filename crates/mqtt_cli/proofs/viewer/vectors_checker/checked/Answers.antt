use Rattle.mqtt_cli.proofs.viewer_lemmas.RightVectors.{judged_end, judged_next}
use Rattle.mqtt_cli.proofs.viewer.vectors_checker.checked.Goals as goal

pub loop-first-preserved : goal.loop-first-preserved
loop-first-preserved c =
    rw c.in_ok-push.ensures.items (judged_next c.args.vectors.now c.loop-first.rights.items c.in-Some.first.now c.in-Some.after.now c.in_ok-is_right.field-0
    (rw c.in-Some.ensures.cases.0 at c.loop-first.invariant) c.in_ok-is_right.ensures)

pub returns-clause-count : goal.returns-clause-count
returns-clause-count c = judged_end c.args.vectors.now c.loop-first.rights.items c.loop-first.rest.now c.in_default.ensures.cases c.loop-first.invariant

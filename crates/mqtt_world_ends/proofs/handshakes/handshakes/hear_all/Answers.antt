use Rattle.mqtt_world_ends.proofs.handshakes_lemmas.Hearing.{one_more_hears}
use Rattle.mqtt_world_ends.proofs.handshakes.handshakes.hear_all.Goals as goal

pub loop-fate-preserved : goal.loop-fate-preserved
loop-fate-preserved c =
    one_more_hears c.args.heard c.args.fates.now c.loop-fate.fates c.loop-fate.fate-index _ c.after.result
    c.loop-fate-test.true c.loop-fate.auto.fates c.loop-fate.invariant c.after.ensures

use Rattle.std.proofs.lemmas.Result.{IfErr-weaker, IfOk-weaker}
use Rattle.mqtt_rules.specs.step.Laws.{unasked}
use Rattle.mqtt_replay.proofs.over_world_lemmas.Caused.{due_in, none_begun}
use Rattle.mqtt_replay.proofs.over_world_lemmas.Texted.{front_seen, replays_seen}
use Rattle.mqtt_replay.proofs.over_world.replaying.replay_over.Goals as goal

pub returns-in-Ok-clause-ok : goal.returns-in-Ok-clause-ok
returns-in-Ok-clause-ok g c =
    IfOk-weaker c.replay.result _ _
    (λ played shows. replays_seen g.K.Keep (unasked c.args.limits) c.args.keep _ _ _ _ played c.in-Ok.ensures.starts (rw c.new-in-Ok.ensures at shows)) c.replay.ensures.ok

pub returns-in-Ok-clause-err : goal.returns-in-Ok-clause-err
returns-in-Ok-clause-err g c =
    IfErr-weaker c.replay.result _ _
    (λ fault front n. front_seen g.K.Keep (unasked c.args.limits) c.args.keep _ _ _ _ c.in-Ok.ensures.starts (rw c.new-in-Ok.ensures at (front n))) c.replay.ensures.err

pub returns-in-Ok-clause-cause : goal.returns-in-Ok-clause-cause
returns-in-Ok-clause-cause g c =
    IfErr-weaker c.replay.result _ _
    (λ fault due. due_in g.K.Keep (unasked c.args.limits) c.args.keep _ c.in-Ok.ensures.starts fault due) c.replay.ensures.cause

pub returns-in-Err-clause-cause : goal.returns-in-Err-clause-cause
returns-in-Err-clause-cause g c =
    none_begun g.K.Keep (unasked c.args.limits) c.args.keep c.in-Err.fault c.fault_of.result c.fault_of.ensures c.in-Err.ensures.refused

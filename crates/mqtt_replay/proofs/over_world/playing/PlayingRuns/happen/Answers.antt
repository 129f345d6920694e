use Rattle.std.proofs.Common.{◌≡◌, rules}
use Rattle.mqtt_replay.proofs.over_world_lemmas.Caused.{store_due}
use Rattle.mqtt_replay.proofs.over_world_lemmas.Refused.{cant_of}
use Rattle.mqtt_replay.proofs.over_world.playing.PlayingRuns.happen.Goals as goal

pub returns-clause-bad : goal.returns-clause-bad
returns-clause-bad g c = λ place is.
    let same : c.args.self.now ≡ c.self.inside.world = search rules in
    rw same (cant_of g.K.Keep _ _ place _ _ c.happen.ensures.refused is)

pub returns-clause-cause : goal.returns-clause-cause
returns-clause-cause g c = store_due g.K.Keep c.happen.result c.happen.ensures.cause

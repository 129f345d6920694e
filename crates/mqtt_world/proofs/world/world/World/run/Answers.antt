use Rattle.std.proofs.Common.{ap, sym, ◌∙◌}
use Rattle.mqtt_world.specs.world.Worlds.{Lasting}
use Rattle.mqtt_world.proofs.world_lemmas.Bad.{over_tells_none, ran_tells_bad, stops_tells_bad}
use Rattle.mqtt_world.proofs.world_lemmas.Course.{delivered, run_comes}
use Rattle.mqtt_world.proofs.world.world.World.run.Goals as goal

pub run_all-requires-clause-stands : goal.run_all-requires-clause-stands
run_all-requires-clause-stands g c =
    (c.in_default.field-0, ap (λ (w : Lasting _). w.stage) (sym c.self.view_is) ∙ c.in_default.is)

pub returns-in-Ok-clause-goes_on : goal.returns-in-Ok-clause-goes_on
returns-in-Ok-clause-goes_on g c = λ start come.
    run_comes g.K.Keep start c.args.events.now c.run_all.new.tells.items c.run_all.result c.args.self.now c.run_all.new.self
    c.run_all.ensures.happened c.run_all.ensures.refused come

pub returns-in-Ok-clause-delivers : goal.returns-in-Ok-clause-delivers
returns-in-Ok-clause-delivers g c = λ start come.
    delivered g.K.Keep start c.run_all.new.self
    (run_comes g.K.Keep start c.args.events.now c.run_all.new.tells.items c.run_all.result c.args.self.now c.run_all.new.self
    c.run_all.ensures.happened c.run_all.ensures.refused come)

pub returns-in-Err-run_all-clause-goes_on : goal.returns-in-Err-run_all-clause-goes_on
returns-in-Err-run_all-clause-goes_on g c = λ start come.
    run_comes g.K.Keep start c.args.events.now c.run_all.new.tells.items c.run_all.result c.args.self.now c.run_all.new.self
    c.run_all.ensures.happened c.run_all.ensures.refused come

pub returns-in-Err-run_all-clause-delivers : goal.returns-in-Err-run_all-clause-delivers
returns-in-Err-run_all-clause-delivers g c = λ start come.
    delivered g.K.Keep start c.run_all.new.self
    (run_comes g.K.Keep start c.args.events.now c.run_all.new.tells.items c.run_all.result c.args.self.now c.run_all.new.self
    c.run_all.ensures.happened c.run_all.ensures.refused come)

pub returns-in-Ok-clause-bad : goal.returns-in-Ok-clause-bad
returns-in-Ok-clause-bad g c = λ start come.
    ran_tells_bad g.K.Keep start c.args.events.now _ c.run_all.new.tells.items c.args.self.now c.run_all.new.self c.in-Ok.ensures.happened

pub returns-in-Err-run_all-clause-bad : goal.returns-in-Err-run_all-clause-bad
returns-in-Err-run_all-clause-bad g c = λ start come.
    stops_tells_bad g.K.Keep start c.args.events.now c.in-Err-run_all.fault c.args.self.now c.run_all.new.self c.in-Err-run_all.ensures.refused come

pub returns-in-Err-clause-bad : goal.returns-in-Err-clause-bad
returns-in-Err-clause-bad g c = λ start come.
    over_tells_none g.K.Keep start c.args.events.now _ c.in-Err.over _ _ (ap (λ (w : Lasting _). w.stage) (sym c.self.view_is) ∙ c.in-Err.is)

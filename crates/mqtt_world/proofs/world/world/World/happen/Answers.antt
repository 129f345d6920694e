use Rattle.std.proofs.Common.{◌∙◌, rules, sym}
use Rattle.std.specs.Prelude.{Err}
use Rattle.mqtt_world.proofs.world_lemmas.Bad.{one_tells_bad, over_tells_bad}
use Rattle.mqtt_world.proofs.world_lemmas.Course.{delivered, one_comes, stage_as}
use Rattle.mqtt_world.proofs.world.world.World.happen.Goals as goal

pub returns-in-Ok-clause-goes_on : goal.returns-in-Ok-clause-goes_on
returns-in-Ok-clause-goes_on g c = λ start come.
    one_comes g.K.Keep start c.args.event.now c.go_on.result c.args.self.now c.go_on.new.self (search rules) (search rules) come

pub returns-in-Ok-clause-delivers : goal.returns-in-Ok-clause-delivers
returns-in-Ok-clause-delivers g c = λ start come.
    delivered g.K.Keep start c.go_on.new.self
    (one_comes g.K.Keep start c.args.event.now c.go_on.result c.args.self.now c.go_on.new.self (search rules) (search rules) come)

pub returns-in-Ok-clause-bad : goal.returns-in-Ok-clause-bad
returns-in-Ok-clause-bad g c = λ start come.
    one_tells_bad g.K.Keep start c.args.event.now c.go_on.result c.args.self.now c.go_on.new.self (search rules) (search rules) come

pub returns-in-Err-clause-bad : goal.returns-in-Err-clause-bad
returns-in-Err-clause-bad g c =
    let i = c.self.inside in
    let ended = stage_as g.K.Keep i.stage (Err c.in-Err.over) i.events c.args.self.now c.self.view_is (sym c.replace.ensures.value ∙ c.in-Err.is) in
    λ start come. over_tells_bad g.K.Keep start c.args.event.now (Err c.end.result) c.in-Err.over c.args.self.now c.end.new.self ended

-- By what it keeps.
use Rattle.std.proofs.Common.{◌∙◌, sym}
use Rattle.std.specs.Prelude.{Err, Ok}
use Rattle.mqtt_script.specs.declared.event.Event.TheVariants.{Drain}
use Rattle.mqtt_world.proofs.world_lemmas.Bad.{drain_tells_bad, over_tells_bad}
use Rattle.mqtt_world.proofs.world_lemmas.Course.{answers_why, delivered, drain_comes, drain_empties, drain_refused_at, drained_at, lasting_as, none_over, over_comes}
use Rattle.mqtt_world.proofs.world_lemmas.Course.{stage_as, still_over}
use Rattle.mqtt_world.proofs.world.world.World.drain.Goals as goal

-- ---- if it stands

pub returns-in-Ok-clause-drained : goal.returns-in-Ok-clause-drained
returns-in-Ok-clause-drained g c =
    let i = c.self.inside in
    let view = lasting_as g.K.Keep i.stage (Ok c.in-Ok.stage) i.events c.args.self.now c.self.view_is (sym c.replace.ensures.value ∙ c.in-Ok.is) in
    drained_at g.K.Keep c.args.client.now _ c.args.self.now c.drain_on.new.self c.drain_on.result view c.drain_on.ensures.drained

pub returns-in-Ok-clause-refused : goal.returns-in-Ok-clause-refused
returns-in-Ok-clause-refused g c =
    let i = c.self.inside in
    let view = lasting_as g.K.Keep i.stage (Ok c.in-Ok.stage) i.events c.args.self.now c.self.view_is (sym c.replace.ensures.value ∙ c.in-Ok.is) in
    drain_refused_at g.K.Keep c.args.client.now _ c.args.self.now c.drain_on.new.self c.drain_on.result view c.drain_on.ensures.refused

pub returns-in-Ok-clause-over : goal.returns-in-Ok-clause-over
returns-in-Ok-clause-over g c =
    let i = c.self.inside in
    let view = lasting_as g.K.Keep i.stage (Ok c.in-Ok.stage) i.events c.args.self.now c.self.view_is (sym c.replace.ensures.value ∙ c.in-Ok.is) in
    λ o is. none_over g.K.Keep c.in-Ok.stage i.events c.args.self.now view o is

pub returns-in-Ok-clause-empty : goal.returns-in-Ok-clause-empty
returns-in-Ok-clause-empty g c =
    let i = c.self.inside in
    let view = lasting_as g.K.Keep i.stage (Ok c.in-Ok.stage) i.events c.args.self.now c.self.view_is (sym c.replace.ensures.value ∙ c.in-Ok.is) in
    λ start come.
    drain_empties g.K.Keep start c.args.client.now c.drain_on.result c.args.self.now c.drain_on.new.self
    (drained_at g.K.Keep c.args.client.now _ c.args.self.now c.drain_on.new.self c.drain_on.result view c.drain_on.ensures.drained) come

pub returns-in-Ok-clause-goes_on : goal.returns-in-Ok-clause-goes_on
returns-in-Ok-clause-goes_on g c =
    let i = c.self.inside in
    let view = lasting_as g.K.Keep i.stage (Ok c.in-Ok.stage) i.events c.args.self.now c.self.view_is (sym c.replace.ensures.value ∙ c.in-Ok.is) in
    λ start come.
    drain_comes g.K.Keep start c.args.client.now c.drain_on.result c.args.self.now c.drain_on.new.self
    (drained_at g.K.Keep c.args.client.now _ c.args.self.now c.drain_on.new.self c.drain_on.result view c.drain_on.ensures.drained)
    (drain_refused_at g.K.Keep c.args.client.now _ c.args.self.now c.drain_on.new.self c.drain_on.result view c.drain_on.ensures.refused) come

pub returns-in-Ok-clause-bad : goal.returns-in-Ok-clause-bad
returns-in-Ok-clause-bad g c =
    let i = c.self.inside in
    let view = lasting_as g.K.Keep i.stage (Ok c.in-Ok.stage) i.events c.args.self.now c.self.view_is (sym c.replace.ensures.value ∙ c.in-Ok.is) in
    λ start come.
    drain_tells_bad g.K.Keep start c.args.client.now c.drain_on.result c.args.self.now c.drain_on.new.self
    (drained_at g.K.Keep c.args.client.now _ c.args.self.now c.drain_on.new.self c.drain_on.result view c.drain_on.ensures.drained)
    (drain_refused_at g.K.Keep c.args.client.now _ c.args.self.now c.drain_on.new.self c.drain_on.result view c.drain_on.ensures.refused) come

pub returns-in-Ok-clause-delivers : goal.returns-in-Ok-clause-delivers
returns-in-Ok-clause-delivers g c =
    λ start come. delivered g.K.Keep start c.drain_on.new.self (returns-in-Ok-clause-goes_on g c start come)

-- ---- if it is over

pub returns-in-Err-clause-drained : goal.returns-in-Err-clause-drained
returns-in-Err-clause-drained g c = tt

pub returns-in-Err-clause-refused : goal.returns-in-Err-clause-refused
returns-in-Err-clause-refused g c =
    let i = c.self.inside in
    let view = lasting_as g.K.Keep i.stage (Err c.in-Err.over) i.events c.args.self.now c.self.view_is (sym c.replace.ensures.value ∙ c.in-Err.is) in
    still_over g.K.Keep (Drain c.args.client.now) c.in-Err.over i.events c.args.self.now c.end.new.self c.end.result c.end.ensures.fault
    c.end.ensures.over view

pub returns-in-Err-clause-over : goal.returns-in-Err-clause-over
returns-in-Err-clause-over g c =
    let i = c.self.inside in
    let view = lasting_as g.K.Keep i.stage (Err c.in-Err.over) i.events c.args.self.now c.self.view_is (sym c.replace.ensures.value ∙ c.in-Err.is) in
    λ o is. answers_why g.K.Keep c.in-Err.over i.events c.args.self.now c.end.new.self c.end.result c.end.ensures.fault c.end.ensures.over view o is

pub returns-in-Err-clause-empty : goal.returns-in-Err-clause-empty
returns-in-Err-clause-empty g c = λ start come. tt

pub returns-in-Err-clause-bad : goal.returns-in-Err-clause-bad
returns-in-Err-clause-bad g c =
    let i = c.self.inside in
    let ended = stage_as g.K.Keep i.stage (Err c.in-Err.over) i.events c.args.self.now c.self.view_is (sym c.replace.ensures.value ∙ c.in-Err.is) in
    λ start come.
    over_tells_bad g.K.Keep start (Drain c.args.client.now) (Err c.end.result) c.in-Err.over c.args.self.now c.end.new.self ended

pub returns-in-Err-clause-goes_on : goal.returns-in-Err-clause-goes_on
returns-in-Err-clause-goes_on g c = λ start come. over_comes g.K.Keep start c.in-Err.over c.self.inside.events c.end.new.self c.end.ensures.over

pub returns-in-Err-clause-delivers : goal.returns-in-Err-clause-delivers
returns-in-Err-clause-delivers g c = λ start come.
    delivered g.K.Keep start c.end.new.self (over_comes g.K.Keep start c.in-Err.over c.self.inside.events c.end.new.self c.end.ensures.over)

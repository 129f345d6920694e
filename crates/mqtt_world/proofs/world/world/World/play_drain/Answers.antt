-- By the rounds of the drain.
use Rattle.std.proofs.Common.{ℕ, Option, subst}
use Rattle.mqtt_world_model.specs.model.Tellings.{Telling}
use Rattle.mqtt_script.specs.declared.event.Event.TheVariants.{Drain}
use Rattle.mqtt_world.specs.world.Stages.{PlaysDrain}
use Rattle.mqtt_world.proofs.world_lemmas.Course.{drain_refused, ended, kept_none}
use Rattle.mqtt_world.proofs.world.world.World.play_drain.Goals as goal

pub returns-in-Ok-Some-clause-drained : goal.returns-in-Ok-Some-clause-drained
returns-in-Ok-Some-clause-drained g c =
    c.keep_drain.ensures.drained c.args.client.now c.args.stage c.requires.is
    (subst (λ (x : Option (Telling × ℕ)). PlaysDrain g.K.Keep c.args.client.now c.args.stage x c.drain.new.self) c.in-Ok-Some.field-0-is
    c.in-Ok-Some.ensures)

pub returns-in-Ok-Some-clause-refused : goal.returns-in-Ok-Some-clause-refused
returns-in-Ok-Some-clause-refused g c =
    kept_none g.K.Keep (Drain c.args.client.now) c.args.stage c.args.self.now c.keep_drain.new.self c.keep_drain.result c.keep_drain.ensures.refused

pub returns-in-Ok-None-clause-refused : goal.returns-in-Ok-None-clause-refused
returns-in-Ok-None-clause-refused g c =
    drain_refused g.K.Keep c.args.client.now c.args.stage c.drain.new.self c.args.self.now c.refuse.new.self c.refuse.result
    (subst (λ (x : Option (Telling × ℕ)). PlaysDrain g.K.Keep c.args.client.now c.args.stage x c.drain.new.self) c.in-Ok-None.field-0-is
    c.in-Ok-None.ensures)
    c.refuse.ensures.fault c.refuse.ensures.goes_on

pub returns-in-Err-clause-refused : goal.returns-in-Err-clause-refused
returns-in-Err-clause-refused g c =
    ended g.K.Keep (Drain c.args.client.now) c.in-Err.fault c.args.stage c.args.self.now c.end.new.self c.end.result c.end.ensures.fault
    c.end.ensures.over

use Rattle.mqtt_world.proofs.world_lemmas.Course.{so_far_all, so_far_more, so_far_none}
use Rattle.mqtt_world.proofs.world.world.World.run_all.Goals as goal

pub loop-first-init : goal.loop-first-init
loop-first-init g c =
    so_far_none g.K.Keep c.args.events.now c.requires.stands.0 c.args.self.now c.args.tells.now.items c.requires.stands.1 c.requires.none

pub loop-first-preserved : goal.loop-first-preserved
loop-first-preserved g c =
    let (t, told, next) = c.in_ok-run_one.ensures.happened in
    so_far_more g.K.Keep c.args.events.now c.args.self.now c.loop-first.tells.items c.run_one.new.tells.items c.loop-first.rest.now c.in-Some.after.now
    c.in-Some.first.now t c.loop-first.self c.run_one.new.self c.loop-first.invariant c.in-Some.ensures.cases.0 told next

pub returns-clause-happened : goal.returns-clause-happened
returns-clause-happened g c =
    so_far_all g.K.Keep c.args.events.now c.args.self.now c.loop-first.tells.items c.loop-first.rest.now c.loop-first.self c.loop-first.invariant c.in_default.ensures.cases

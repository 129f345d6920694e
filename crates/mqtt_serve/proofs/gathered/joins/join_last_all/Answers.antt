use Rattle.mqtt_serve.proofs.gathered_lemmas.Joins.{stand_then, themselves}
use Rattle.mqtt_serve.proofs.gathered.joins.join_last_all.Goals as goal

pub loop-init : goal.loop-init
loop-init c = themselves c.args.list.now.items

pub loop-preserved : goal.loop-preserved
loop-preserved c = stand_then _ _ _ c.loop.invariant c.join_last.ensures

pub returns-then-not-join_last : goal.returns-then-not-join_last
returns-then-not-join_last c = stand_then _ _ _ c.loop.invariant c.join_last.ensures

-- By one round more.
use Rattle.std.proofs.Common.{◌+◌, arith}
use Rattle.mqtt_world.proofs.scene_lemmas.Drained.{no_round_yet, one_round_more, rounds_over}
use Rattle.mqtt_world.proofs.scene.scene.Scene.rounds.Goals as goal

pub loop-round-init : goal.loop-round-init
loop-round-init g c = no_round_yet g.K.Keep c.args.now c.args.client.now c.args.self.now c.args.told.now c.requires

pub round-requires : goal.round-requires
round-requires g c = c.loop-round.invariant.playable

pub loop-round-preserved : goal.loop-round-preserved
loop-round-preserved g c =
    one_round_more g.K.Keep c.args.now c.args.client.now c.loop-round.round (c.loop-round.round + 1) c.args.self.now c.loop-round.self c.round.new.self
    c.args.told.now c.loop-round.told c.round.new.told c.is_over.result (omega arith) (λ ss. c.is_over.ensures c.args.now ss) c.if-is_over.false
    c.loop-round.invariant c.in_ok-round.ensures

pub returns-then-is_over : goal.returns-then-is_over
returns-then-is_over g c =
    rounds_over g.K.Keep c.args.now c.args.client.now c.loop-round.round c.args.self.now c.loop-round.self c.args.told.now c.loop-round.told
    c.is_over.result (λ ss. c.is_over.ensures c.args.now ss) c.if-is_over.true c.loop-round.invariant

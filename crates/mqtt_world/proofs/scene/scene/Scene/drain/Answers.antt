-- By its rounds.
use Rattle.mqtt_world.proofs.scene_lemmas.Drained.{drain_done, no_drain}
use Rattle.mqtt_world.proofs.scene.scene.Scene.drain.Goals as goal

pub returns-then-is_bad_drain : goal.returns-then-is_bad_drain
returns-then-is_bad_drain g c =
    no_drain g.K.Keep c.args.now c.args.client.now c.args.self.now c.is_bad_drain.result c.requires (λ ss. c.is_bad_drain.ensures c.args.now ss)
    c.if-is_bad_drain.true

pub returns-in-Ok : goal.returns-in-Ok
returns-in-Ok g c =
    drain_done g.K.Keep c.args.now c.args.client.now c.in-Ok.rounds c.args.self.now c.rounds.new.self c.silent-told.result c.rounds.new.told
    c.is_bad_drain.result c.silent-told.ensures (λ ss. c.is_bad_drain.ensures c.args.now ss) c.if-is_bad_drain.false c.in-Ok.ensures

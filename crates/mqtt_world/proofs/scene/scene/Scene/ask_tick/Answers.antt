-- By what its calls make of the broker and the ends.
use Rattle.std.proofs.Common.{refl}
use Rattle.mqtt_rules.specs.step.Step.{Tick}
use Rattle.mqtt_world_model.specs.model.World.{tick}
use Rattle.mqtt_world.proofs.scene_lemmas.Eventful.{called_whole}
use Rattle.mqtt_world.proofs.scene.scene.Scene.ask_tick.Goals as goal

pub returns : goal.returns
returns g c =
    let s = c.args.self.now in
    called_whole g.K.Keep c.args.now tick Tick s.engine s.ends s c.tick.new.self c.in_ok-told.told tt refl c.requires
    (λ ss. refl) (λ set ss. refl) (λ set ss. refl) tt c.in_ok-told.ensures (λ ss. refl)

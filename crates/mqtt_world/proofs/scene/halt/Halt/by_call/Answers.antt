-- By its cause.
use Rattle.mqtt_world.proofs.scene_lemmas.Halted.{error_due}
use Rattle.mqtt_world.proofs.scene.halt.Halt.by_call.Goals as goal

pub by_store-requires : goal.by_store-requires
by_store-requires g c = error_due g.K.Keep c.args.error c.in-Stopped.is c.requires

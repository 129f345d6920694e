-- By its cause.
use Rattle.mqtt_world.proofs.scene_lemmas.Halted.{no_memory}
use Rattle.mqtt_world.proofs.scene.halt.Halt.by_opening.Goals as goal

pub by_store-requires : goal.by_store-requires
by_store-requires g c = c.requires (no_memory c.args.refusal.1 c.in-Disk.is)

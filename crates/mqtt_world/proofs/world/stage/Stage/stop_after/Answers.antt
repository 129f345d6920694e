-- By what was asked, and what is opened again.
use Rattle.mqtt_world.specs.script_laws.Scripted.{asking_of}
use Rattle.mqtt_world.proofs.world_lemmas.Staged.{all_stop_after, stop_after_bad}
use Rattle.mqtt_world.proofs.world.stage.Stage.stop_after.Goals as goal

pub restart-requires : goal.restart-requires
restart-requires g c = c.in-Ok-Some.ensures.standing

pub returns-in-Ok-Some : goal.returns-in-Ok-Some
returns-in-Ok-Some g c =
    all_stop_after g.K.Keep (asking_of c.args.asking.now) c.args.self c.ask.new.self c.in-Ok-Some.told c.restart.result c.requires.plain
    (rw c.in-Ok-Some.field-0-is at c.in-Ok-Some.ensures) c.restart.ensures.opened

pub returns-in-Ok-None : goal.returns-in-Ok-None
returns-in-Ok-None g c =
    stop_after_bad g.K.Keep (asking_of c.args.asking.now) c.args.self c.ask.new.self (rw c.in-Ok-None.field-0-is at c.in-Ok-None.ensures)

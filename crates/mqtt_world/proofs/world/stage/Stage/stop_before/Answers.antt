-- By what is taken off, and what is opened again.
use Rattle.mqtt_world.specs.script_laws.Scripted.{asking_of}
use Rattle.mqtt_world.proofs.world_lemmas.Staged.{all_stop_before, off_standing, stop_before_bad}
use Rattle.mqtt_world.proofs.world.stage.Stage.stop_before.Goals as goal

pub restart-requires : goal.restart-requires
restart-requires g c =
    off_standing g.K.Keep (asking_of c.args.asking.now) c.args.self c.take_off.new.self c.requires.standing c.take_off.ensures.same
    (rw c.in-Ok-true.field-0-test at c.in-Ok-true.ensures.taken)

pub returns-in-Ok-true : goal.returns-in-Ok-true
returns-in-Ok-true g c =
    all_stop_before g.K.Keep (asking_of c.args.asking.now) c.args.self c.take_off.new.self c.restart.result c.requires.standing
    c.take_off.ensures.same (rw c.in-Ok-true.field-0-test at c.in-Ok-true.ensures.taken) c.restart.ensures.opened

pub returns-in-Ok-false : goal.returns-in-Ok-false
returns-in-Ok-false g c =
    stop_before_bad g.K.Keep (asking_of c.args.asking.now) c.args.self c.take_off.new.self c.requires.standing c.take_off.ensures.same
    (rw c.in-Ok-false.field-0-test at c.in-Ok-false.ensures.taken)

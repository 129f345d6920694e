use Rattle.std.proofs.Common.{◌<◌, ◌^◌, arith, refl}
use Rattle.std.proofs.lemmas.Bool.{lt-ltb}
use Rattle.mqtt_world.proofs.scene_lemmas.Unasked.{window_is}
use Rattle.mqtt_world.proofs.scene.quiet.is_window.Goals as goal

pub returns : goal.returns
returns c =
    let within : c.args.window < 2 ^ 16 = omega arith in
    window_is c.args.window _ refl (lt-ltb c.args.window (2 ^ 16) within)

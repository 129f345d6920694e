-- By what is opened again.
use Rattle.std.proofs.Common.{Some}
use Rattle.mqtt_world.proofs.world_lemmas.Staged.{all_restages, playable_in, restart_plays, staged, within_in}
use Rattle.mqtt_world.proofs.world.stage.Stage.restart.Goals as goal

pub reopen-requires-clause-within : goal.reopen-requires-clause-within
reopen-requires-clause-within g c =
    let s = c.self.inside in
    within_in g.K.Keep s.scene s.strangers s.now s.limits c.args.self c.self.view_is c.requires

pub reopen-requires-clause-playable : goal.reopen-requires-clause-playable
reopen-requires-clause-playable g c =
    let s = c.self.inside in
    playable_in g.K.Keep s.scene s.strangers s.now s.limits c.args.self c.self.view_is c.requires

pub returns-in-Ok-clause-opened : goal.returns-in-Ok-clause-opened
returns-in-Ok-clause-opened g c =
    let s = c.self.inside in
    all_restages g.K.Keep s.scene c.in-Ok.scene s.strangers c.restart.new.self s.now s.limits c.args.self c.reopen.result c.silent.result
    c.self.view_is c.in-Ok.is c.reopen.ensures c.restart.ensures c.silent.ensures

pub returns-in-Ok-clause-played : goal.returns-in-Ok-clause-played
returns-in-Ok-clause-played g c =
    let s = c.self.inside in
    restart_plays g.K.Keep c.args.self (staged c.in-Ok.scene c.restart.new.self s.now s.limits) (Some c.silent.result) c.requires
    (all_restages g.K.Keep s.scene c.in-Ok.scene s.strangers c.restart.new.self s.now s.limits c.args.self c.reopen.result c.silent.result
    c.self.view_is c.in-Ok.is c.reopen.ensures c.restart.ensures c.silent.ensures)

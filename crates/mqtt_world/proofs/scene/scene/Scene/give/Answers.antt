-- By what a piece is.
use Rattle.std.proofs.Common.{sym}
use Rattle.mqtt_world.proofs.scene_lemmas.Given.{given_in}
use Rattle.mqtt_world.proofs.scene_lemmas.Halted.{piece_due}
use Rattle.mqtt_world.proofs.scene.scene.Scene.give.Goals as goal

pub returns-in-Ok : goal.returns-in-Ok
returns-in-Ok g c = λ call asks.
    given_in g.K.Keep c.args.now c.moment.result c.args.line call c.args.bytes.now c.args.self.now c.tell.new.self c.self.inside.engine c.piece.new.self c.self.inside.clients c.in-Ok.outcome c.piece.result c.tell.result
    (sym c.self.view_is) c.requires.playable c.requires.left c.requires.within asks c.moment.ensures c.in-Ok.is c.piece.ensures.called c.tell.ensures.same c.tell.ensures.ends c.tell.ensures.told

pub by_call-requires : goal.by_call-requires
by_call-requires g c =
    piece_due g.K.Keep c.moment.result c.args.line c.args.bytes.now c.args.self.now c.self.inside.engine c.piece.new.self c.self.inside.clients
    c.in-Err.error c.piece.result (sym c.self.view_is) c.requires.playable c.in-Err.is c.piece.ensures.called

use Rattle.std.proofs.Common.{IfOk, List, subst, ℕ}
use Rattle.mqtt_world.specs.world.Visits.{TellsPiece}
use Rattle.mqtt_world.proofs.world_lemmas.Calling.{welcomed_pieces}
use Rattle.mqtt_world.proofs.world.stage.Stage.piece.Goals as goal

pub returns : goal.returns
returns g c =
    welcomed_pieces g.K.Keep c.args.name.now c.args.bytes.now c.args.self.now c.welcome.new.self c.take_piece.new.self c.take_piece.result
    c.args.told.now c.take_piece.new.told c.in_ok-welcome.ensures
    (subst (λ (name : List ℕ). IfOk c.take_piece.result (λ taken. TellsPiece g.K.Keep name c.args.bytes.now c.welcome.new.self taken c.args.told.now c.take_piece.new.told c.take_piece.new.self))
    c.as_str.ensures.value c.take_piece.ensures)

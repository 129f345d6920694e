-- By one piece more.
use Rattle.std.proofs.Common.{ℕ, List, ◌∙◌, subst, sym}
use Rattle.mqtt_world.proofs.scene_lemmas.Heard.{none_of, some_of}
use Rattle.mqtt_world.proofs.world_lemmas.Visited.{ComesOn, comes_first, comes_further, comes_last}
use Rattle.mqtt_world.proofs.world.stage.Stage.pieces.Goals as goal

pub pieces-init : goal.pieces-init
pieces-init g c =
    comes_first g.K.Keep c.args.name.now c.args.bytes.now c.args.self.now c.args.told.now c.requires.standing c.requires.silent c.requires.good

pub returns-then-is_empty : goal.returns-then-is_empty
returns-then-is_empty g c =
    comes_last g.K.Keep c.args.name.now c.args.bytes.now c.pieces.rest.now c.in_ok-taken.taken c.args.self.now c.pieces.self c.piece.new.self c.pieces.told c.piece.new.told
    c.pieces.invariant c.in_ok-taken.ensures (sym c.split_at.ensures.back ∙ none_of c.split_at.result.1.now c.is_empty.result c.is_empty.ensures c.if-is_empty.true)

pub pieces-preserved : goal.pieces-preserved
pieces-preserved g c =
    let more = c.split_at.result.1.now in
    let some = some_of more c.is_empty.result c.is_empty.ensures c.if-is_empty.false in
    subst (λ (xs : List ℕ). ComesOn g.K.Keep c.args.name.now c.args.bytes.now c.args.self.now c.piece.new.told c.piece.new.self xs) (sym c.split_at.ensures.back)
    (comes_further g.K.Keep c.args.name.now c.args.bytes.now c.pieces.rest.now c.in_ok-taken.taken c.args.self.now c.pieces.self c.piece.new.self c.pieces.told c.piece.new.told
    c.pieces.invariant c.in_ok-taken.ensures (λ none. some (c.split_at.ensures.back ∙ none)))

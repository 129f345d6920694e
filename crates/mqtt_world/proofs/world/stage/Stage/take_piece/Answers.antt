-- By what is whole of what came.
use Rattle.std.proofs.Common.{◌≡◌, None, Some, option_map, refl, rules, subst}
use Rattle.mqtt_world_ends.specs.strangers.Strangers.{Comes}
use Rattle.mqtt_world.specs.scene.Events.{world_of}
use Rattle.mqtt_world.proofs.world_lemmas.Calling.{piece_given, piece_held}
use Rattle.mqtt_world.proofs.world.stage.Stage.take_piece.Goals as goal

pub returns-in_ok-heard-in-Some : goal.returns-in_ok-heard-in-Some
returns-in_ok-heard-in-Some g c =
    let s = c.self.inside in
    let name = c.args.name.now in
    let bytes = c.args.bytes.now in
    let taken = c.in_ok-taken.field-0.taken in
    let given : option_map (λ v. v.items) c.in_ok-taken.field-0.given ≡ Some c.deref.result.now = search rules in
    piece_given g.K.Keep name bytes s.now taken s.scene c.hear-heard.new.self s.strangers c.come.new.self s.limits c.args.self.now c.self.view_is
    c.requires.standing c.requires.there c.requires.alike c.requires.waits c.number-line.result (c.number-line.ensures (world_of s.now s.strangers s.scene))
    c.deref.result.now c.args.told.now c.hear-heard.new.told (subst (Comes name bytes s.strangers c.come.new.self taken) given c.in_ok-taken.ensures.came)
    c.in_ok-heard-in-Some.ensures

pub returns-in-None : goal.returns-in-None
returns-in-None g c =
    let s = c.self.inside in
    let name = c.args.name.now in
    let bytes = c.args.bytes.now in
    let taken = c.in_ok-taken.field-0.taken in
    let given : option_map (λ v. v.items) c.in_ok-taken.field-0.given ≡ None = search rules in
    piece_held g.K.Keep name bytes s.now taken s.scene s.scene s.strangers c.come.new.self s.limits c.args.self.now c.self.view_is
    c.requires.standing c.requires.there c.requires.alike c.requires.waits c.number-line.result (c.number-line.ensures (world_of s.now s.strangers s.scene))
    c.args.told.now (subst (Comes name bytes s.strangers c.come.new.self taken) given c.in_ok-taken.ensures.came) refl

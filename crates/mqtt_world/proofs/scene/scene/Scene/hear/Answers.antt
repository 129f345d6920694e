-- By what bytes ask for.
use Rattle.std.proofs.Common.{ℕ, Option, None, OnOk, arith, refl, subst, sym}
use Rattle.mqtt_world_model.specs.model.World.{call_on}
use Rattle.mqtt_world.specs.scene.Hearing.{Hears}
use Rattle.mqtt_world.proofs.scene_lemmas.Heard.{heard_call, heard_no_bytes, heard_nothing, none_of, some_of}
use Rattle.mqtt_world.proofs.scene.scene.Scene.hear.Goals as goal

pub returns-then-is_empty : goal.returns-then-is_empty
returns-then-is_empty g c =
    heard_no_bytes g.K.Keep c.args.now c.args.line c.args.bytes.now c.args.self.now c.args.told.now c.requires.playable
    (none_of c.args.bytes.now c.is_empty.result c.is_empty.ensures c.if-is_empty.true)

pub returns-in_ok-more-in-Some : goal.returns-in_ok-more-in-Some
returns-in_ok-more-in-Some g c =
    let bytes = c.args.bytes.now in
    subst (λ (o : Option ℕ). OnOk c.join.result (Hears g.K.Keep c.args.now (call_on o bytes) c.args.self.now c.args.told.now c.join.new.told c.give.new.self)) (sym c.in-Some.is)
    (heard_call g.K.Keep c.args.now c.join.result c.in-Some.line bytes c.args.self.now c.give.new.self c.args.told.now c.join.new.told c.in_ok-more-in-Some.more
    (λ i. omega (arith, c.type_inv.bytes i)) c.requires.left (some_of bytes c.is_empty.result c.is_empty.ensures c.if-is_empty.false) c.in_ok-more-in-Some.ensures c.join.ensures)

pub returns-in-None : goal.returns-in-None
returns-in-None g c =
    subst (λ (o : Option ℕ). Hears g.K.Keep c.args.now (call_on o c.args.bytes.now) c.args.self.now c.args.told.now c.args.told.now c.args.self.now) (sym c.in-None.is)
    (heard_nothing g.K.Keep c.args.now None c.args.self.now c.args.told.now c.requires.playable refl)

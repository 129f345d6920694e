use Rattle.std.proofs.Common.{◌∙◌, ap, not, option_map, sym}
use Rattle.mqtt_world_model.specs.model.World.{World, give_up, has_line, link_of}
use Rattle.mqtt_world_ends.specs.peers.Lines as peers
use Rattle.mqtt_world.proofs.scene_lemmas.Unasked.{done_at, refused, seen}
use Rattle.mqtt_world.proofs.scene.scene.Scene.give_up.Goals as goal

pub returns-then-not-has_line : goal.returns-then-not-has_line
returns-then-not-has_line g c =
    let s = c.args.self.now in
    let link = seen (λ (w : World). link_of c.args.client.now w) s c.self.inside.engine c.self.inside.clients
    (option_map peers.link_of c.link_of.result) c.self.view_is c.link_of.ensures in
    refused g.K.Keep (give_up c.args.client.now) s (not c.has_line.result) c.requires
    (λ now ss. ap not (c.has_line.ensures ∙ ap has_line (link now ss))) (ap not c.if-not-has_line.true)

pub returns : goal.returns
returns g c =
    let s = c.args.self.now in
    let o = c.self.inside.clients in
    let link = seen (λ (w : World). link_of c.args.client.now w) s c.self.inside.engine o
    (option_map peers.link_of c.link_of.result) c.self.view_is c.link_of.ensures in
    done_at g.K.Keep (give_up c.args.client.now) s c.self.inside.engine o c.give_up.new.self (not c.has_line.result) c.silent.result
    (sym c.self.view_is) tt c.silent.ensures c.requires
    (λ now ss. ap not (c.has_line.ensures ∙ ap has_line (link now ss))) (ap not c.if-not-has_line.false)
    (λ set w at. c.give_up.ensures set w)

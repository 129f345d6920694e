-- By what a new line is.
use Rattle.std.proofs.Common.{sym}
use Rattle.mqtt_world.proofs.scene_lemmas.Linked.{linked_in}
use Rattle.mqtt_world.proofs.scene.scene.Scene.link.Goals as goal

pub returns-clause-calls : goal.returns-clause-calls
returns-clause-calls g c =
    linked_in g.K.Keep c.args.now c.moment.result c.link.result c.args.self.now c.self.inside.engine c.link.new.self c.self.inside.clients
    (sym c.self.view_is) c.requires c.moment.ensures c.link.ensures.step c.link.ensures.same c.link.ensures.held

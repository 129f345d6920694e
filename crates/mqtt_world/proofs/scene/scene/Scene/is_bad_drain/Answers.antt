-- By whether its line stands.
use Rattle.mqtt_world.proofs.scene_lemmas.Drained.{bad_where_none, bad_where_some, stands_by}
use Rattle.mqtt_world.proofs.scene.scene.Scene.is_bad_drain.Goals as goal

pub returns-in-Some : goal.returns-in-Some
returns-in-Some g c =
    bad_where_some c.args.client.now c.args.self.now c.self.inside.engine c.self.inside.clients c.stands.result c.in-Some.stands
    c.self.view_is
    (stands_by c.args.client.now c.args.self.now c.self.inside.engine c.self.inside.clients c.stands.result c.inner.result.now c.inner.ensures c.stands.ensures)
    c.in-Some.is

pub returns-in-None : goal.returns-in-None
returns-in-None g c =
    bad_where_none c.args.client.now c.args.self.now c.self.inside.engine c.self.inside.clients c.stands.result
    c.self.view_is
    (stands_by c.args.client.now c.args.self.now c.self.inside.engine c.self.inside.clients c.stands.result c.inner.result.now c.inner.ensures c.stands.ensures)
    c.in-None.is

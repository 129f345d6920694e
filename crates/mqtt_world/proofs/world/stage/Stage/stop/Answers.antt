-- By what stops at a stranger's bytes are, and at what is asked by others.
use Rattle.std.proofs.Common.{ap, sym, ◌∙◌}
use Rattle.mqtt_world_model.specs.model.World.{stranger}
use Rattle.mqtt_world.specs.script_laws.Scripted.{asking_of}
use Rattle.mqtt_world.proofs.world_lemmas.Pieces.{plain_askings, stops_of}
use Rattle.mqtt_world.proofs.world.stage.Stage.stop.Goals as goal

pub returns-in-Stranger : goal.returns-in-Stranger
returns-in-Stranger g c =
    stops_of g.K.Keep c.args.after c.args.asking.now (stranger c.in-Stranger.name c.as_slice.result.now) c.args.self c.stop_visit.result
    (ap asking_of c.in-Stranger.is ∙ ap (stranger c.in-Stranger.name) (sym c.as_slice.ensures)) c.stop_visit.ensures

pub stop_plain-requires-clause-plain : goal.stop_plain-requires-clause-plain
stop_plain-requires-clause-plain g c = plain_askings c.args.asking.now c.in_default.not-Stranger

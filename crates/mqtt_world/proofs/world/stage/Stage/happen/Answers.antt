-- By what the call does that the event comes to.
use Rattle.std.proofs.Common.{ap, sym, List, ℕ, Some, ◌∙◌}
use Rattle.std.specs.Prelude.{Ok}
use Rattle.mqtt_world_model.specs.model.World.{ask, clock, restart, stop_after, stop_before, stranger}
use Rattle.mqtt_script.specs.declared.event.Event.TheVariants.{Drain}
use Rattle.mqtt_world.specs.script_laws.Scripted.{asking_of, event_of}
use Rattle.mqtt_world.proofs.world_lemmas.Pieces.{events_of_ends, plays_of, told_of, told_of_drain, told_of_ends}
use Rattle.mqtt_world.proofs.world.stage.Stage.happen.Goals as goal

pub returns-in-Restart : goal.returns-in-Restart
returns-in-Restart g c = plays_of g.K.Keep c.args.event.now restart c.args.self c.restart.result (ap event_of c.in-Restart.is) c.restart.ensures.played

pub returns-in-StopBefore : goal.returns-in-StopBefore
returns-in-StopBefore g c =
    plays_of g.K.Keep c.args.event.now (stop_before (asking_of c.in-StopBefore.asking)) c.args.self c.stop.result (ap event_of c.in-StopBefore.is)
    c.stop.ensures

pub returns-in-StopAfter : goal.returns-in-StopAfter
returns-in-StopAfter g c =
    plays_of g.K.Keep c.args.event.now (stop_after (asking_of c.in-StopAfter.asking)) c.args.self c.stop-in-StopAfter.result
    (ap event_of c.in-StopAfter.is) c.stop-in-StopAfter.ensures

pub returns-in-Clock : goal.returns-in-Clock
returns-in-Clock g c =
    plays_of g.K.Keep c.args.event.now (clock c.in-Clock.wait) c.args.self (Ok (c.clock-told.new.self, Some c.clock-told.result))
    (ap event_of c.in-Clock.is) c.clock-told.ensures

pub returns-in-Stranger : goal.returns-in-Stranger
returns-in-Stranger g c =
    let name = c.in-Stranger.name in
    told_of g.K.Keep c.args.event.now (ask (stranger name c.as_slice.result.now)) c.args.self c.visit-told.new.self c.visit-told.result
    c.with_told.result
    (ap event_of c.in-Stranger.is ∙ ap (λ bytes. Some (ask (stranger name bytes))) (sym c.as_slice.ensures))
    c.with_told.ensures c.visit-told.ensures

pub returns-in-Drain : goal.returns-in-Drain
returns-in-Drain g c =
    told_of_drain g.K.Keep c.args.event.now c.as_str.result.now c.args.self c.drain_told-told.new.self c.drain_told-told.result c.with_told-in-Drain.result
    (c.in-Drain.is ∙ ap (λ (name : List ℕ). Drain name) (sym c.as_str.ensures.value)) c.with_told-in-Drain.ensures c.drain_told-told.ensures

pub returns-in_default : goal.returns-in_default
returns-in_default g c =
    let d = c.in_default in
    let is = events_of_ends c.args.event.now d.not-Restart d.not-StopBefore d.not-StopAfter d.not-Clock d.not-Stranger d.not-Drain in
    told_of_ends g.K.Keep c.args.event.now c.args.self c.play-told.new.self c.play-told.result c.with_told-in_default.result is
    c.with_told-in_default.ensures (c.play-told.ensures is)

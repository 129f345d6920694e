-- By what the call does that the event comes to.
use Rattle.std.proofs.Common.{ap, refl, Ok}
use Rattle.mqtt_world_model.specs.model.World as world
use Rattle.mqtt_world_ends.specs.peers.Publishers.{draft_of}
use Rattle.mqtt_world_ends.specs.peers.Receivers.{wish_of}
use Rattle.mqtt_world.specs.clients.Ends.{reading}
use Rattle.mqtt_world.specs.script_laws.Scripted.{event_of}
use Rattle.mqtt_world.proofs.scene_lemmas.Played.{does_at, does_now, other_events, reads_event}
use Rattle.mqtt_world.proofs.scene.scene.Scene.play.Goals as goal

pub returns-in-Publisher : goal.returns-in-Publisher
returns-in-Publisher g c = λ is.
    let client = c.in-Publisher.client in
    does_at g.K.Keep c.args.now c.args.event.now c.args.self.now c.make_publisher.new.self (λ n. world.publisher n) client client
    c.make_publisher.result (ap event_of c.in-Publisher.is) refl c.make_publisher.ensures

pub returns-in-Receiver : goal.returns-in-Receiver
returns-in-Receiver g c = λ is.
    let client = c.in-Receiver.client in
    does_at g.K.Keep c.args.now c.args.event.now c.args.self.now c.make_receiver.new.self (λ n. world.receiver n c.in-Receiver.window c.in-Receiver.aliases) client client
    c.make_receiver.result (ap event_of c.in-Receiver.is) refl c.make_receiver.ensures

pub returns-in-Connect : goal.returns-in-Connect
returns-in-Connect g c = λ is.
    let client = c.in-Connect.client in
    does_now g.K.Keep c.args.now c.args.event.now c.args.self.now c.connect.new.self (λ n. world.connect_end n c.in-Connect.clean_start)
    c.as_str.result.now client c.connect.result (ap event_of c.in-Connect.is) c.as_str.ensures.value c.connect.ensures

pub returns-in-GiveUp : goal.returns-in-GiveUp
returns-in-GiveUp g c = λ is.
    does_at g.K.Keep c.args.now c.args.event.now c.args.self.now c.give_up.new.self (λ n. world.give_up n)
    c.as_str-in-GiveUp.result.now c.in-GiveUp.client (Ok c.give_up.result) (ap event_of c.in-GiveUp.is) c.as_str-in-GiveUp.ensures.value
    c.give_up.ensures

pub returns-in-Publish : goal.returns-in-Publish
returns-in-Publish g c = λ is.
    does_at g.K.Keep c.args.now c.args.event.now c.args.self.now c.publish.new.self (λ n. world.publish n (draft_of c.in-Publish.draft))
    c.as_str-in-Publish.result.now c.in-Publish.client c.publish.result (ap event_of c.in-Publish.is) c.as_str-in-Publish.ensures.value
    c.publish.ensures

pub returns-in-Subscribe : goal.returns-in-Subscribe
returns-in-Subscribe g c = λ is.
    does_at g.K.Keep c.args.now c.args.event.now c.args.self.now c.subscribe.new.self (λ n. world.subscribe n (wish_of c.in-Subscribe.wish))
    c.as_str-in-Subscribe.result.now c.in-Subscribe.client c.subscribe.result (ap event_of c.in-Subscribe.is)
    c.as_str-in-Subscribe.ensures.value c.subscribe.ensures

pub returns-in-ToBroker : goal.returns-in-ToBroker
returns-in-ToBroker g c = λ is.
    let old = c.in-ToBroker.old in
    does_now g.K.Keep c.args.now c.args.event.now c.args.self.now c.ask_packet.new.self (λ n. world.ask (reading old n))
    c.as_str-in-ToBroker.result.now c.in-ToBroker.client c.ask_packet.result
    (reads_event c.args.event.now old c.in-ToBroker.client c.in-ToBroker.is) c.as_str-in-ToBroker.ensures.value c.ask_packet.ensures

pub returns-in-ToEnd : goal.returns-in-ToEnd
returns-in-ToEnd g c = λ is.
    does_at g.K.Keep c.args.now c.args.event.now c.args.self.now c.to_end.new.self (λ n. world.to_end n)
    c.as_str-in-ToEnd.result.now c.in-ToEnd.client c.to_end.result (ap event_of c.in-ToEnd.is) c.as_str-in-ToEnd.ensures.value c.to_end.ensures

pub returns-in-Break : goal.returns-in-Break
returns-in-Break g c = λ is.
    does_now g.K.Keep c.args.now c.args.event.now c.args.self.now c.ask_break.new.self (λ n. world.ask (world.break n))
    c.as_str-in-Break.result.now c.in-Break.client c.ask_break.result (ap event_of c.in-Break.is) c.as_str-in-Break.ensures.value
    c.ask_break.ensures

pub returns-in-Pump : goal.returns-in-Pump
returns-in-Pump g c = λ is.
    does_now g.K.Keep c.args.now c.args.event.now c.args.self.now c.ask_pump.new.self (λ n. world.ask (world.pump n))
    c.as_str-in-Pump.result.now c.in-Pump.client c.ask_pump.result (ap event_of c.in-Pump.is) c.as_str-in-Pump.ensures.value
    c.ask_pump.ensures

pub returns-in_default : goal.returns-in_default
returns-in_default g c = λ is.
    let d = c.in_default in
    absurd (other_events c.args.event.now d.not-Publisher d.not-Receiver d.not-Connect d.not-GiveUp d.not-Publish d.not-Subscribe d.not-ToBroker
    d.not-ToEnd d.not-Break d.not-Pump d.not-Tick is)

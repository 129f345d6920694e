use Rattle.std.proofs.Common.{◌∙◌, ◌∷◌, ◌++◌, [], List, ap, map, sym, take}
use Rattle.mqtt_world_ends.specs.handshakes.Fates.{packets_of}
use Rattle.mqtt_world_model.specs.model.Ends.{Sent, goes, shake}
use Rattle.mqtt_world_model.specs.model.Lines.{Line}
use Rattle.mqtt_world_ends.proofs.peers_lemmas.Publishers.{goes_more, goes_nothing, shakes_more}
use Rattle.mqtt_world_ends.proofs.peers.publisher.send_shakes.Goals as goal

pub loop-packet-init : goal.loop-packet-init
loop-packet-init c = sym (goes_nothing c.args.stands c.args.line.now)

pub loop-packet-preserved : goal.loop-packet-preserved
loop-packet-preserved c =
    let i = c.loop-packet.packet-index in
    let sent = map shake (packets_of (take i c.args.packets.now)) in
    let one = c.shake.result ∷ [] in
    c.in_ok-send.ensures.ok
    ∙ (ap (λ (l : Line Sent). goes c.args.stands one l) c.loop-packet.invariant
    ∙ (goes_more c.args.stands sent one c.args.line.now
    ∙ ap (λ (up : List Sent). goes c.args.stands up c.args.line.now)
    (ap (λ (s : Sent). sent ++ s ∷ []) c.shake.ensures
    ∙ sym (shakes_more c.args.packets.now i _ c.loop-packet-test.true))))

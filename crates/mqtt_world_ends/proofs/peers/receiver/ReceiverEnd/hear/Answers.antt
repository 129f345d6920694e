use Rattle.std.proofs.Common.{◌≡◌, ◌∙◌, ap, sym}
use Rattle.std.proofs.lemmas.Result.{on_ok_weaker}
use Rattle.mqtt_packet.specs.declared.codec.packet.Packet.{Packet}
use Rattle.mqtt_world_model.specs.model.Lines.{Down}
use Rattle.mqtt_world_model.specs.model.Ends.{hears, reads_publish}
use Rattle.mqtt_world_ends.specs.peers.Receivers.{hears_control}
use Rattle.mqtt_world_ends.proofs.peers_lemmas.Receivers.{control_heard}
use Rattle.mqtt_world_ends.proofs.peers.receiver.ReceiverEnd.hear.Goals as goal

pub returns-in-Ok : goal.returns-in-Ok
returns-in-Ok c =
    let r = c.args.self.now in
    let stands = c.args.stands in
    let same : hears stands c.args.down.copy c.args.down.packet r
    ≡ reads_publish stands c.down.inside.copy c.in-Ok.publish c.in-Ok.publish.delivery r =
    ap (λ (d : Down). hears stands d.copy d.packet r) (sym c.down.view_is)
    ∙ ap (λ (p : Packet). hears stands c.down.inside.copy p r) c.in-Ok.ensures.message in
    on_ok_weaker c.hear_publish.result (λ e. e ∙ sym same) c.hear_publish.ensures

pub returns-in-Err : goal.returns-in-Err
returns-in-Err c =
    let r = c.args.self.now in
    let stands = c.args.stands in
    let same : hears stands c.args.down.copy c.args.down.packet r ≡ hears_control stands c.in-Err.packet r =
    ap (λ (d : Down). hears stands d.copy d.packet r) (sym c.down.view_is)
    ∙ (ap (λ (p : Packet). hears stands c.down.inside.copy p r) c.in-Err.ensures.other.0
    ∙ control_heard stands c.down.inside.copy c.in-Err.packet r c.in-Err.ensures.other.1) in
    on_ok_weaker c.hear_control-done.result (λ e. e ∙ sym same) c.hear_control-done.ensures

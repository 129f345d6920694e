use Rattle.std.proofs.Common.{ap, ◌∙◌, if◌then◌else◌}
use Rattle.mqtt_world_model.specs.model.Ends.{Receiver, wire_back}
use Rattle.mqtt_world.proofs.clients_lemmas.Fronts.{asked_on}
use Rattle.mqtt_world.proofs.clients.receivers.front.Goals as goal

pub returns : goal.returns
returns c =
    let p = c.args.receiver.now in
    let at = λ (p : Receiver). if c.args.old then p.line.old_number else p.line.number in
    asked_on (wire_back p.client p.window p.aliases) p.line c.args.old c.in_ok-packet.packet c.number_on.result _ c.in_ok-packet.ensures
    (c.number_on.ensures ∙ ap at c.receiver.view_is) c.paired.ensures

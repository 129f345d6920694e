use Rattle.std.proofs.Common.{ap, ◌∙◌}
use Rattle.std.specs.Prelude.{option_map}
use Rattle.std.proofs.lemmas.Result.{IfOk-weaker}
use Rattle.mqtt_world.specs.clients.Ends.{Ends, input_of}
use Rattle.mqtt_world.proofs.clients_lemmas.Fronts.{publisher_is_asked, receiver_is_asked}
use Rattle.mqtt_world.proofs.clients.clients.Clients.front.Goals as goal

pub returns-in-Some : goal.returns-in-Some
returns-in-Some c =
    let same = c.deref.ensures.value ∙ ap (λ (e : Ends). e.publishers) c.self.view_is in
    IfOk-weaker c.front.result _ _
    (λ x is. publisher_is_asked c.args.old c.args.client.now c.args.self.now c.deref.result.now c.in-Some.publisher.now
    (option_map input_of x) c.in-Some.ensures same is) c.front.ensures

pub returns-in-Some-named : goal.returns-in-Some-named
returns-in-Some-named c =
    let same = c.deref.ensures.value ∙ ap (λ (e : Ends). e.publishers) c.self.view_is in
    let other = c.deref-2.ensures.value ∙ ap (λ (e : Ends). e.receivers) c.self.view_is in
    IfOk-weaker c.front-in-Some-named.result _ _
    (λ x is. receiver_is_asked c.args.old c.args.client.now c.args.self.now c.deref.result.now c.deref-2.result.now
    c.in-Some-named.receiver.now (option_map input_of x) c.in_default.ensures same c.in-Some-named.ensures other is)
    c.front-in-Some-named.ensures

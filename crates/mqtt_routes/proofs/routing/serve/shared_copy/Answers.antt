use Rattle.std.proofs.Common.{◌∙◌, ap, [], ◌∷◌}
use Rattle.mqtt_routes.specs.routing.Intended.{copy_for, add_to}
use Rattle.mqtt_routes.specs.routing.Acceptance.{shared_copy}
use Rattle.mqtt_routes.proofs.routing_lemmas.CopyLemmas.{add_to-empty}
use Rattle.mqtt_routes.proofs.routing.serve.shared_copy.Goals as goal

pub returns-clause-copy : goal.returns-clause-copy
returns-clause-copy c =
    let p = c.args.publication.now in
    let sub = c.row.inside.subscription in
    let birth = c.member.inside.birth in
    c.in_ok-add.ensures.ok ∙ ap (λ x. add_to p x sub) c.new-copy.ensures ∙ add_to-empty p birth sub ∙ ap (λ s. copy_for p birth (s ∷ [])) c.row.view_is ∙ ap (shared_copy p) c.member.view_is

use Rattle.std.proofs.Common.{ap, ◌∙◌}
use Rattle.mqtt_routes.specs.tree.Tree.{found_in_all}
use Rattle.mqtt_routes.proofs.tree_lemmas.FoundLemmas.{found_push}
use Rattle.mqtt_routes.proofs.tree.walk.push_some.Goals as goal

pub returns-in_ok-push-clause-found : goal.returns-in_ok-push-clause-found
returns-in_ok-push-clause-found g c = λ i ls.
    let texts = g.F.Filters.texts c.args.filters.now in
    ap (found_in_all texts ls i) c.in_ok-push.ensures.items ∙ found_push texts ls i c.args.runs.now.items c.args.run

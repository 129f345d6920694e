use Rattle.std.proofs.Common.{sym, ◌∙◌, arith}
use Rattle.mqtt_topic.specs.names.Levels.{is_none_left}
use Rattle.mqtt_routes.specs.tree.Tree.{rest_of}
use Rattle.mqtt_routes.proofs.tree_lemmas.OrderLemmas.{none_before}
use Rattle.mqtt_routes.proofs.tree_lemmas.RunLemmas.{which_between}
use Rattle.mqtt_routes.proofs.tree.run.ended.Goals as goal

pub returns-clause-which : goal.returns-clause-which
returns-clause-which g c = λ i.
    let texts = g.F.Filters.texts c.args.filters.now in
    let run = c.args.run in
    let rest = rest_of texts run i in
    which_between run.from run.to run.from c.boundary-to.result i (is_none_left rest) (omega arith) c.boundary-to.ensures.to
    (λ a b. absurd (omega (arith, a, b)))
    (λ a b. sym (none_before rest) ∙ c.boundary-to.ensures.before i a b)
    (λ a b. sym (none_before rest) ∙ c.boundary-to.ensures.behind i a b)

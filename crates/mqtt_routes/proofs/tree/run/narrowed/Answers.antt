use Rattle.std.proofs.Common.{◌<◌, [], Some, get_or, ap, ◌∙◌, arith}
use Rattle.mqtt_routes.specs.tree.Tree.{begins_with, levels_behind, rest_of}
use Rattle.mqtt_routes.proofs.tree_lemmas.RunLemmas.{begins_inside, narrowed_which, rest_inside, tails_ordered}
use Rattle.mqtt_routes.proofs.tree.run.narrowed.Goals as goal

pub returns-then-from-to-clause-which : goal.returns-then-from-to-clause-which
returns-then-from-to-clause-which g c =
    let texts = g.F.Filters.texts c.args.filters.now in
    let lo = c.boundary-from in
    let hi = c.boundary-to in
    narrowed_which texts c.args.run c.args.level.now lo.result hi.result lo.ensures.from hi.ensures.to lo.ensures.before lo.ensures.behind hi.ensures.before hi.ensures.behind

pub end_of-requires : goal.end_of-requires
end_of-requires g c =
    let texts = g.F.Filters.texts c.args.filters.now in
    let lo = c.boundary-from in
    let hi = c.boundary-to in
    let some : lo.result < hi.result = omega (arith, c.if-from-to.false, hi.ensures.from) in
    ap (λ t. begins_with c.args.level.now (levels_behind c.args.run.end t)) c.text.ensures
    ∙ begins_inside texts c.args.run c.args.level.now lo.result hi.result lo.ensures.from hi.ensures.to lo.ensures.before lo.ensures.behind hi.ensures.before hi.ensures.behind lo.result (omega arith) some

pub returns-clause-run : goal.returns-clause-run
returns-clause-run g c =
    let texts = g.F.Filters.texts c.args.filters.now in
    let run = c.args.run in
    let lo = c.boundary-from in
    let hi = c.boundary-to in
    let rest = rest_inside texts run c.args.level.now lo.result hi.result lo.ensures.from hi.ensures.to lo.ensures.before lo.ensures.behind hi.ensures.before hi.ensures.behind c.end_of.result c.end_of.ensures in
    record {
      some = hi.ensures.from;
      within = omega (arith, hi.ensures.to, c.requires.run.within);
      ordered = λ i j a b d.
          tails_ordered c.args.level.now (rest_of texts run i) (rest_of texts run j) (levels_behind (Some c.end_of.result) (get_or texts i [])) (levels_behind (Some c.end_of.result) (get_or texts j []))
          (rest i a (omega (arith, b, d))) (rest j (omega (arith, a, b)) d) (c.requires.run.ordered i j (omega (arith, a, lo.ensures.from)) b (omega (arith, d, hi.ensures.to)));
    }

pub returns-clause-which : goal.returns-clause-which
returns-clause-which g c =
    let texts = g.F.Filters.texts c.args.filters.now in
    let lo = c.boundary-from in
    let hi = c.boundary-to in
    narrowed_which texts c.args.run c.args.level.now lo.result hi.result lo.ensures.from hi.ensures.to lo.ensures.before lo.ensures.behind hi.ensures.before hi.ensures.behind

pub returns-clause-rest : goal.returns-clause-rest
returns-clause-rest g c =
    let texts = g.F.Filters.texts c.args.filters.now in
    let lo = c.boundary-from in
    let hi = c.boundary-to in
    rest_inside texts c.args.run c.args.level.now lo.result hi.result lo.ensures.from hi.ensures.to lo.ensures.before lo.ensures.behind hi.ensures.before hi.ensures.behind c.end_of.result c.end_of.ensures

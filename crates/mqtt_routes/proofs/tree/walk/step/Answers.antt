use Rattle.std.proofs.Common.{◌∷◌, [], arith}
use Rattle.std.proofs.lemmas.Result.{on_ok_weaker}
use Rattle.mqtt_topic.specs.names.Names.{plus, hash}
use Rattle.mqtt_routes.specs.tree.Tree.{begins_with, found_in, is_within, once, rest_of}
use Rattle.mqtt_routes.proofs.tree_lemmas.RunLemmas.{within_parts}
use Rattle.mqtt_routes.proofs.tree_lemmas.FoundLemmas.{all_found, narrowed_found, step_found}
use Rattle.mqtt_routes.proofs.tree.walk.step.Goals as goal

pub returns-clause-found : goal.returns-clause-found
returns-clause-found g c =
    on_ok_weaker c.push_some-2.result
    (λ last i ls.
    let texts = g.F.Filters.texts c.args.filters.now in
    let run = c.args.run in
    let l = c.args.level.now in
    let hashes = c.narrowed.result in
    let wild = c.narrowed-2.result in
    let own = c.narrowed-3.result in
    let pushed = c.in_ok-push_all.ensures i in
    let first = c.in_ok-push_some.ensures.found i ls in
    let second = last i ls in
    let all = all_found texts run i hashes (begins_with (hash ∷ []) (rest_of texts run i)) (c.narrowed.ensures.which i) in
    let behind_plus = narrowed_found texts run i wild (plus ∷ []) ls (c.narrowed-2.ensures.which i) (λ w. let parts = within_parts wild.from wild.to i w in c.narrowed-2.ensures.rest i parts.0 parts.1) in
    let behind_own = narrowed_found texts run i own l ls (c.narrowed-3.ensures.which i) (λ w. let parts = within_parts own.from own.to i w in c.narrowed-3.ensures.rest i parts.0 parts.1) in
    let sum = step_found texts run i l ls (once (is_within i hashes)) (found_in texts ls i wild) (found_in texts ls i own) c.requires.plain all behind_plus behind_own in
    omega (arith, pushed, first, second, sum))
    c.push_some-2.ensures.found

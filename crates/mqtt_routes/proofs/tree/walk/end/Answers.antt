use Rattle.std.proofs.Common.{◌∷◌, [], None, get_or, arith}
use Rattle.mqtt_topic.specs.names.Names.{hash}
use Rattle.mqtt_topic.specs.names.Levels.{is_none_left}
use Rattle.mqtt_routes.specs.declared.tree.run.Run.{Run}
use Rattle.mqtt_routes.specs.tree.Tree.{begins_with, is_within, once, rest_of}
use Rattle.mqtt_routes.proofs.tree_lemmas.FoundLemmas.{all_found, end_found, found_next}
use Rattle.mqtt_routes.proofs.tree.walk.end.Goals as goal

pub loop-run-preserved : goal.loop-run-preserved
loop-run-preserved g c = λ i.
    let texts = g.F.Filters.texts c.args.filters.now in
    let runs = c.args.runs.now in
    let k = c.loop-run.run-index in
    let none : Run = record { from = 0; to = 0; end = None } in
    let run = get_or runs k none in
    let hashes = all_found texts run i c.narrowed.result (begins_with (hash ∷ []) (rest_of texts run i)) (c.narrowed.ensures.which i) in
    let ended = all_found texts run i c.ended.result (is_none_left (rest_of texts run i)) (c.ended.ensures.which i) in
    let sum = end_found texts run i (once (is_within i c.narrowed.result)) (once (is_within i c.ended.result)) hashes ended in
    let next = found_next texts [] i runs k none c.loop-run-test.true in
    let first = c.in_ok-push_all.ensures i in
    let second = c.in_ok-push_all-2.ensures i in
    let so_far = c.loop-run.invariant i in
    omega (arith, first, second, sum, next, so_far)

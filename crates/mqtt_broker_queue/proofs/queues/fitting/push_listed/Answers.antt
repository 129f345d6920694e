use Rattle.std.proofs.Common.{[], ◌∷◌, ◌++◌, ap, sym, ◌∙◌}
use Rattle.mqtt_broker_queue.specs.queues.Fitting.{listed}
use Rattle.mqtt_broker_queue.proofs.queues_lemmas.Listed.{listed_at, listed_not}
use Rattle.mqtt_broker_queue.proofs.queues.fitting.push_listed.Goals as goal

pub returns-then-row_len-largest-clause-ok : goal.returns-then-row_len-largest-clause-ok
returns-then-row_len-largest-clause-ok c =
    listed_not c.args.largest c.row_len.result c.args.form c.args.row.now c.args.sizes.now.items c.if-row_len-largest.true c.row_len.ensures

pub returns-clause-ok : goal.returns-clause-ok
returns-clause-ok c =
    let e = c.args.row.now in
    let size = c.in-Some-row_in_len.size in
    let bytes = c.in-Some-row_in_len.ensures.exact in
    c.in_ok-push.ensures.items
    ∙ ap (λ rows. c.args.sizes.now.items ++ rows)
    (ap (λ place. (place, size) ∷ []) c.place.ensures
    ∙ (listed_at c.args.largest c.row_len.result size c.in-Some.form e c.if-row_len-largest.false c.row_len.ensures bytes
    ∙ ap (λ o. listed c.args.largest o e) (sym c.in-Some.is)))

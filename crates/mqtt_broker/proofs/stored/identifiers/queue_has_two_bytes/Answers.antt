use Rattle.std.proofs.Common.{◌≡◌, suc, ◌+◌, ◌∷◌, ◌∙◌, drop, ap, sym, subst, arith, drop-cons}
use Rattle.std.specs.List.{AllByRecursion}
use Rattle.mqtt_records.specs.messages.Queue.{CopyRow}
use Rattle.mqtt_broker.specs.stored.Identifiers.{HasTwoBytes}
use Rattle.mqtt_broker.proofs.stored.identifiers.queue_has_two_bytes.Goals as goal

pub loop-row-preserved : goal.loop-row-preserved
loop-row-preserved c = λ rest.
    let l = c.loop-row in
    let xs = c.args.queue.now in
    let next : l.row-index + 1 ≡ suc l.row-index = omega arith in
    let from = drop-cons xs l.row-index c.row-item.result c.loop-row-test.true
    ∙ ap (λ (x : CopyRow). x ∷ drop (suc l.row-index) xs) (sym c.row-item.is)
    ∙ ap (λ n. c.row-item.result ∷ drop n xs) (sym next) in
    l.invariant (subst (AllByRecursion (λ (row : CopyRow). HasTwoBytes row.phase)) (sym from) (c.copy_has_two_bytes.ensures, rest))

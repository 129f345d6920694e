use Rattle.std.proofs.Common.{◌≡◌, suc, ◌+◌, ◌∷◌, ◌∙◌, drop, ap, sym, subst, arith, drop-cons}
use Rattle.mqtt_records.specs.declared.state.change.Change.{Change}
use Rattle.mqtt_records.specs.state.Saying.{AllPassOn}
use Rattle.mqtt_records.proofs.state.change.all_pass_on.Goals as goal

pub loop-change-preserved : goal.loop-change-preserved
loop-change-preserved c = λ rest.
    let l = c.loop-change in
    let xs = c.args.changes.now in
    let next : l.change-index + 1 ≡ suc l.change-index = omega arith in
    let from = drop-cons xs l.change-index c.change-item.result c.loop-change-test.true
    ∙ ap (λ (x : Change). x ∷ drop (suc l.change-index) xs) (sym c.change-item.is)
    ∙ ap (λ n. c.change-item.result ∷ drop n xs) (sym next) in
    l.invariant (subst AllPassOn (sym from) (c.passes_on.ensures, rest))

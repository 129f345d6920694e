use Rattle.std.proofs.Common.{◌≡◌, suc, ◌+◌, ◌∷◌, ◌∙◌, drop, ap, sym, subst, arith, drop-cons}
use Rattle.std.specs.List.{AllByRecursion}
use Rattle.mqtt_records.specs.declared.messages.message.RetainedMessage.{RetainedMessage}
use Rattle.mqtt_records.specs.messages.PassedOn.{IsPassedOn}
use Rattle.mqtt_records.proofs.state.passed.retained_pass_on.Goals as goal

pub loop-kept-preserved : goal.loop-kept-preserved
loop-kept-preserved c = λ rest.
    let l = c.loop-kept in
    let xs = c.args.retained.now in
    let next : l.kept-index + 1 ≡ suc l.kept-index = omega arith in
    let from = drop-cons xs l.kept-index c.kept-item.result c.loop-kept-test.true
    ∙ ap (λ (x : RetainedMessage). x ∷ drop (suc l.kept-index) xs) (sym c.kept-item.is)
    ∙ ap (λ n. c.kept-item.result ∷ drop n xs) (sym next) in
    l.invariant (subst (AllByRecursion (λ (k : RetainedMessage). IsPassedOn k.content.properties)) (sym from) (c.message_passes_on.ensures, rest))

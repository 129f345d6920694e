use Rattle.std.proofs.Common.{◌≡◌, suc, ◌+◌, ◌∷◌, ◌∙◌, drop, ap, sym, subst, arith, drop-cons}
use Rattle.std.specs.List.{AllByRecursion}
use Rattle.mqtt_records.specs.declared.state.session.Session.{Session}
use Rattle.mqtt_broker.specs.stored.Identifiers.{HasShortQueue}
use Rattle.mqtt_broker.proofs.stored.identifiers.sessions_have_two_bytes.Goals as goal

pub loop-session-preserved : goal.loop-session-preserved
loop-session-preserved c = λ rest.
    let l = c.loop-session in
    let xs = c.args.sessions.now in
    let next : l.session-index + 1 ≡ suc l.session-index = omega arith in
    let from = drop-cons xs l.session-index c.session-item.result c.loop-session-test.true
    ∙ ap (λ (x : Session). x ∷ drop (suc l.session-index) xs) (sym c.session-item.is)
    ∙ ap (λ n. c.session-item.result ∷ drop n xs) (sym next) in
    l.invariant (subst (AllByRecursion HasShortQueue) (sym from) (c.session_has_two_bytes.ensures, rest))

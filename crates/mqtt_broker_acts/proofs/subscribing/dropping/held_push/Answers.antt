use Rattle.std.proofs.Common.{◌≡◌, ◌∷◌, [], ◌++◌, ap, sym, ◌∙◌, append-nil}
use Rattle.mqtt_broker_acts.proofs.subscribing_lemmas.Dropped.{held_one, held_none}
use Rattle.mqtt_broker_acts.proofs.subscribing.dropping.held_push.Goals as goal

pub returns-in_ok-push : goal.returns-in_ok-push
returns-in_ok-push c =
    let x = c.in-Some.subscription.now in
    let same : c.in_ok-clone.field-0 ≡ x.filter = c.in_ok-clone.ensures.cases in
    c.in_ok-push.ensures.items
    ∙ ap (λ ys. c.args.all.now.items ++ ys) (ap (λ t. t ∷ []) same ∙ held_one c.args.filter.now x c.args.session.now (sym c.in-Some.ensures))

pub returns-in_default : goal.returns-in_default
returns-in_default c =
    sym (append-nil c.args.all.now.items)
    ∙ ap (λ ys. c.args.all.now.items ++ ys) (held_none c.args.filter.now c.args.session.now (sym c.in_default.ensures))

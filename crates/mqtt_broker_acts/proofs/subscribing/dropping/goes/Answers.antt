use Rattle.std.proofs.Common.{◌≡◌, false, ap, sym, ◌∙◌, ◌∷◌, [], ◌++◌}
use Rattle.std.specs.List.{list_any}
use Rattle.std.specs.Prelude.{bytes_eq}
use Rattle.mqtt_broker_step.proofs.Filters.{found_filter}
use Rattle.mqtt_broker_acts.proofs.subscribing_lemmas.Dropped.{not_held_left, held_left, not_left_after, left_after}
use Rattle.mqtt_broker_acts.proofs.subscribing.dropping.goes.Goals as goal

pub returns-in_default-clause-left : goal.returns-in_default-clause-left
returns-in_default-clause-left c = sym (not_held_left c.args.filter.now c.args.gone.now.items c.args.session.now (sym c.in_default.ensures))

pub returns-in_default-clause-gone : goal.returns-in_default-clause-gone
returns-in_default-clause-gone c =
    not_left_after c.args.filter.now c.args.gone.now.items c.args.session.now
    (not_held_left c.args.filter.now c.args.gone.now.items c.args.session.now (sym c.in_default.ensures))

pub returns-clause-left : goal.returns-clause-left
returns-clause-left c =
    let isnt : list_any (bytes_eq c.args.filter.now) c.args.gone.now.items ≡ false = ap (λ ts. list_any (bytes_eq c.args.filter.now) ts) (sym c.deref.ensures.value) ∙ (sym c.is_among.ensures ∙ c.if-is_among.false) in
    sym (held_left c.args.filter.now c.in-Some.subscription.now c.args.gone.now.items c.args.session.now (sym c.in-Some.ensures) isnt)

pub returns-clause-gone : goal.returns-clause-gone
returns-clause-gone c =
    let s = c.args.session.now in
    let f = c.args.filter.now in
    let old = c.args.gone.now.items in
    let isnt : list_any (bytes_eq f) old ≡ false = ap (λ ts. list_any (bytes_eq f) ts) (sym c.deref.ensures.value) ∙ (sym c.is_among.ensures ∙ c.if-is_among.false) in
    let same : c.in_ok-clone.field-0 ≡ f = c.in_ok-clone.ensures.cases ∙ found_filter f c.in-Some.subscription.now s.subscriptions (sym c.in-Some.ensures) in
    c.in_ok-push.ensures.items
    ∙ (ap (λ t. old ++ t ∷ []) same
    ∙ left_after f old s (held_left f c.in-Some.subscription.now old s (sym c.in-Some.ensures) isnt))

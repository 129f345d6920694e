use Rattle.std.proofs.Common.{◌≡◌, ◌||◌, Some, true, sym, ◌∙◌, ap, true≢false, is_some, length, nat_lt, arith}
use Rattle.std.specs.Prelude.{find}
use Rattle.mqtt_base.specs.declared.limits.TheConstants.{SUBSCRIPTION_LIMIT}
use Rattle.indexmap.specs.IndexSet.{replace_key}
use Rattle.mqtt_routes.specs.routing.Keys.{same_filter}
use Rattle.mqtt_routes.specs.routing.Subscriptions.{is_to, has_filter, put}
use Rattle.mqtt_routes.proofs.routing_lemmas.PlaceLemmas.{put-replace_key}
use Rattle.mqtt_routes.proofs.routing.subscriber.Subscriptions.put.Goals as goal

pub returns-in_err-replace-clause-refused : goal.returns-in_err-replace-clause-refused
returns-in_err-replace-clause-refused c =
    let keys = c.self.inside.rows.keys in
    absurd (true≢false (c.in-Some.ensures.found ∙ ap (λ t. has_filter t keys) c.as_str.ensures.value ∙ ap (λ s. has_filter s.filter keys) (sym c.new.ensures) ∙ c.in_err-replace.ensures.absent))

pub invariant_of-self-2 : goal.invariant_of-self-2
invariant_of-self-2 c =
    let keys = c.self.inside.rows.keys in
    let found = c.in-Some.ensures.key ∙ ap (λ t. find (is_to t) keys) c.as_str.ensures.value in
    let old : is_some c.in_ok-replace.field-0 ≡ true = ap is_some (c.in_ok-replace.ensures.old ∙ ap (λ s. find (is_to s.filter) keys) c.new.ensures ∙ sym found) in
    omega (arith, c.self.invariant, rw old at c.in_ok-replace.ensures.len)

pub returns-clause-ok : goal.returns-clause-ok
returns-clause-ok c =
    let keys = c.self.inside.rows.keys in
    let new = c.args.subscription in
    let found = ap Some c.row.view_is ∙ c.in-Some.ensures.key ∙ ap (λ t. find (is_to t) keys) c.as_str.ensures.value in
    c.in_ok-replace.ensures.keys ∙ ap (replace_key same_filter keys) c.new.ensures ∙ put-replace_key new c.row.inside.subscription keys found ∙ ap (λ h. put new h.subs) c.self.view_is

pub returns-clause-only : goal.returns-clause-only
returns-clause-only c =
    let subs = c.args.self.now.subs in
    let filter = c.args.subscription.filter in
    let found = c.in-Some.ensures.found ∙ ap (λ t. has_filter t c.self.inside.rows.keys) c.as_str.ensures.value in
    ap (λ b. b || nat_lt (length subs) SUBSCRIPTION_LIMIT) (ap (λ h. has_filter filter h.subs) (sym c.self.view_is) ∙ sym found)

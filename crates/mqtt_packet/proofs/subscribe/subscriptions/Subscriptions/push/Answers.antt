use Rattle.std.proofs.Common.{◌≡◌, ℕ, List, [], ◌∷◌, ◌++◌, ap, ◌∙◌, arith}
use Rattle.mqtt_base.specs.Values.{blob}
use Rattle.mqtt_packet.specs.declared.parts.fault.Fault.TheVariants.{Malformed}
use Rattle.mqtt_packet.specs.subscribe.Subscriptions.{subscription, IsSubscription, subscription_at}
use Rattle.mqtt_packet.specs.subscribe.SubscriptionViews.{asked}
use Rattle.mqtt_packet.proofs.subscribe_lemmas.SubscriptionLemmas.{subscription_reads}
use Rattle.mqtt_packet.proofs.subscribe_lemmas.ItemLemmas.{one_more}
use Rattle.mqtt_packet.proofs.subscribe.subscriptions.Subscriptions.push.Goals as goal

pub invariant_of-self : goal.invariant_of-self
invariant_of-self c =
    let same : c.in_ok-self-inside.field-0 ≡ c.self.inside.bytes ++ subscription (asked c.args.filter.now c.args.options) = c.in_ok-self-inside.ensures.exact ∙ ap (λ (w : List ℕ). w ++ (blob c.as_str.result.now ++ c.options_byte-byte.result ∷ [])) c.as_slice.ensures ∙ ap (λ (t : List ℕ). c.self.inside.bytes ++ (blob t ++ c.options_byte-byte.result ∷ [])) c.as_str.ensures.value ∙ ap (λ (n : ℕ). c.self.inside.bytes ++ (blob c.args.filter.now ++ n ∷ [])) c.options_byte-byte.ensures.value in
    let more = one_more Malformed subscription_at subscription IsSubscription subscription_reads c.self.inside.bytes c.in_ok-self-inside.field-0 c.args.self.now (asked c.args.filter.now c.args.options) c.self.invariant c.self.view_is same (c.as_str.ensures.good, omega (arith, c.options_byte-byte.ensures.bound, c.options_byte-byte.ensures.value)) c.in_ok-self-inside.ensures.each in
    more.0

pub returns-clause-ok : goal.returns-clause-ok
returns-clause-ok c =
    let same : c.in_ok-self-inside.field-0 ≡ c.self.inside.bytes ++ subscription (asked c.args.filter.now c.args.options) = c.in_ok-self-inside.ensures.exact ∙ ap (λ (w : List ℕ). w ++ (blob c.as_str.result.now ++ c.options_byte-byte.result ∷ [])) c.as_slice.ensures ∙ ap (λ (t : List ℕ). c.self.inside.bytes ++ (blob t ++ c.options_byte-byte.result ∷ [])) c.as_str.ensures.value ∙ ap (λ (n : ℕ). c.self.inside.bytes ++ (blob c.args.filter.now ++ n ∷ [])) c.options_byte-byte.ensures.value in
    let more = one_more Malformed subscription_at subscription IsSubscription subscription_reads c.self.inside.bytes c.in_ok-self-inside.field-0 c.args.self.now (asked c.args.filter.now c.args.options) c.self.invariant c.self.view_is same (c.as_str.ensures.good, omega (arith, c.options_byte-byte.ensures.bound, c.options_byte-byte.ensures.value)) c.in_ok-self-inside.ensures.each in
    more.1

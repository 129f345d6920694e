-- An entry is its own row.
use Rattle.std.proofs.Common.{◌≡◌, ◌+◌, ℕ, ap, ◌∙◌, arith}
use Rattle.std.proofs.lemmas.List.{map-id}
use Rattle.mqtt_flow.specs.outbound.Queue.{greatest_order}
use Rattle.mqtt_flow.proofs.outbound.outflow.Outflow.next_order.Goals as goal

pub overflow_add-result : goal.overflow_add-result
overflow_add-result c =
    let low = c.self.invariant.orders in
    let same : c.greatest_order.result ≡ greatest_order c.self.inside.entries.items = c.greatest_order.ensures (record {}) ∙ ap greatest_order (map-id c.deref.result.now ∙ c.deref.ensures.value) in
    omega arith

pub returns : goal.returns
returns c =
    let queue = map-id c.deref.result.now ∙ c.deref.ensures.value ∙ ap (λ v. v.queue) c.self.view_is in
    ap (λ (n : ℕ). n + 1) (c.greatest_order.ensures (record {}) ∙ ap greatest_order queue)

use Rattle.std.proofs.Common.{◌≡◌, ◌≤◌, length, nat_lt, true, false, ◌∙◌, ap, sym, subst, arith, rules}
use Rattle.std.proofs.lemmas.Fn.{always_returns_same}
use Rattle.std.proofs.lemmas.List.{length-map}
use Rattle.std.specs.List.Sorted.{IsPartitionedBy, IsPartitionPoint}
use Rattle.mqtt_routes.specs.routing.Subscriptions.{spot_of}
use Rattle.mqtt_routes.proofs.routing_lemmas.SpotLemmas.{partitioned, spot_of-point}
use Rattle.mqtt_routes.proofs.routing.subscribers.Subscribers.spot.Goals as goal

pub returns : goal.returns
returns c =
    let es = c.self.inside.sessions.entries in
    let b = c.args.birth in
    let i = c.partition_point.result in
    let same = c.as_slice.ensures ∙ c.keys.ensures.rest in
    let parted = subst (IsPartitionedBy (λ k. nat_lt k b)) (sym same) (partitioned b es c.self.invariant) in
    let point = c.partition_point.ensures.partitioned (λ k. nat_lt k b) (always_returns_same _ _ _ (λ a r f k. search rules)) parted in
    let within : i ≤ length es = omega (arith, c.partition_point.ensures.bound, ap length same, length-map es (λ q. q.0)) in
    spot_of-point b i es within (subst (λ ks. IsPartitionPoint (λ k. nat_lt k b ≡ true) (λ k. nat_lt k b ≡ false) ks i) same point) ∙ ap (λ h. spot_of b h.sessions) c.self.view_is
